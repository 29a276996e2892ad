use Rattle.std.proofs.Common.{◌≡◌, map, take}
use Rattle.std.specs.Prelude.{sum_by}
use Rattle.bb_ast.specs.Inside.Views.{named_view}
use Rattle.bb_expr.specs.Inside.Shares.{capped, own_cells}
use Rattle.bb_expr.specs.Inside.Occurrences.{ranges_at}
use Rattle.std.proofs.Common.{ℕ, List, Option}
use Rattle.std.specs.Prelude.{option_to_list}
use Rattle.bb_ast.specs.Syntax.{Expression}
use Rattle.bb_hier.proofs.cells.named_cells.Given as goal

abbrev pub invariant-loop-value : goal.invariant-loop-value
invariant-loop-value l = l.total ≡ capped (sum_by (λ (x : List ℕ × Option Expression). sum_by (own_cells (ranges_at l.checked l.place)) (option_to_list x.1)) (map named_view (take l.value-index l.all)))
