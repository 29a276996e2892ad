use Rattle.std.proofs.Common.{◌≡◌, ℕ, List, Option, map, take}
use Rattle.std.specs.Prelude.{sum_by}
use Rattle.bb_ast.specs.Syntax.{Expression}
use Rattle.bb_ast.specs.Inside.Views.{gate_view}
use Rattle.bb_expr.specs.Inside.Shares.{capped}
use Rattle.bb_expr.specs.Inside.Occurrences.{ranges_at}
use Rattle.bb_hier.specs.Inside.Weights.{gate_weight}
use Rattle.bb_hier.proofs.cells.gates_cells.Given as goal

abbrev pub invariant-loop-call : goal.invariant-loop-call
invariant-loop-call l = l.total ≡ capped (sum_by (λ (x : Option (List ℕ) × List Expression). gate_weight (ranges_at l.checked l.place) l.gate x.1) (map gate_view (take l.call-index l.all)))
