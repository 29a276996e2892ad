use Rattle.std.proofs.Common.{◌≡◌, map, take}
use Rattle.std.specs.Prelude.{sum_by}
use Rattle.bb_ast.specs.Inside.Views.{arm_view}
use Rattle.bb_expr.specs.Inside.Shares.{capped}
use Rattle.bb_expr.specs.Inside.Occurrences.{ranges_at}
use Rattle.bb_hier.specs.Inside.Weights.{assignment_cells}
use Rattle.bb_hier.proofs.cells.assignments_cells.Given as goal

abbrev pub invariant-loop-left : goal.invariant-loop-left
invariant-loop-left l = l.total ≡ capped (sum_by (assignment_cells (ranges_at l.checked l.place)) (map arm_view (take l.left-index l.all)))
