use Rattle.std.proofs.Common.{◌-◌, [], ◌∷◌, arith}
use Rattle.std.specs.Prelude.{◌^◌}
use Rattle.bb_ast.specs.Syntax.{Expression}
use Rattle.bb_ast.specs.Inside.Views.{expression, arm_view}
use Rattle.bb_expr.specs.Inside.Occurrences.{OccursAt, ranges_at}
use Rattle.bb_hier.specs.Inside.Weights.{assignment_cells}
use Rattle.bb_hier.proofs.CellSums.{share_more, share_all, all_within}
use Rattle.bb_hier.proofs.cells.assignments_cells.Goals as goal

pub assignment_cells-requires-clause-left : goal.assignment_cells-requires-clause-left
assignment_cells-requires-clause-left c = all_within (OccursAt c.args.checked.now c.args.place) (λ (x : Expression × Expression). x.0 ∷ x.1 ∷ []) arm_view c.args.all.now c.loop-left.left-index c.loop-left-item.result c.loop-left-test.true c.loop-left-item.is c.requires.occurs 0 (expression c.loop-left-item.result.0) (omega arith)

pub assignment_cells-requires-clause-right : goal.assignment_cells-requires-clause-right
assignment_cells-requires-clause-right c = all_within (OccursAt c.args.checked.now c.args.place) (λ (x : Expression × Expression). x.0 ∷ x.1 ∷ []) arm_view c.args.all.now c.loop-left.left-index c.loop-left-item.result c.loop-left-test.true c.loop-left-item.is c.requires.occurs 1 (expression c.loop-left-item.result.1) (omega arith)

pub loop-left-preserved : goal.loop-left-preserved
loop-left-preserved c = share_more (assignment_cells (ranges_at c.args.checked.now c.args.place)) arm_view c.args.all.now c.loop-left.left-index (2 ^ 64 - 1) c.loop-left-item.result c.loop-left.total c.assignment_cells.result c.saturating_add-total.result c.loop-left-test.true c.loop-left-item.is c.loop-left.invariant c.assignment_cells.ensures.cells c.saturating_add-total.ensures

pub returns : goal.returns
returns c = record { cells = share_all (assignment_cells (ranges_at c.args.checked.now c.args.place)) arm_view c.args.all.now c.loop-left.left-index (2 ^ 64 - 1) c.loop-left.total c.loop-left-test.false c.loop-left.invariant }
