use Rattle.std.proofs.Common.{◌≡◌, ℕ, List, map, take}
use Rattle.std.specs.Prelude.{sum_by}
use Rattle.bb_ast.specs.Syntax.{PlainConns}
use Rattle.bb_ast.specs.Inside.Views.{call_view}
use Rattle.bb_expr.specs.Inside.Shares.{capped, own_cells}
use Rattle.bb_expr.specs.Inside.Occurrences.{ranges_at, conns_expressions}
use Rattle.bb_hier.proofs.cells.call_cells.Given as goal

abbrev pub invariant-loop-call : goal.invariant-loop-call
invariant-loop-call l = l.total ≡ capped (sum_by (λ (x : List ℕ × PlainConns). sum_by (own_cells (ranges_at l.checked l.place)) (conns_expressions x.1)) (map call_view (take l.call-index l.calls)))
