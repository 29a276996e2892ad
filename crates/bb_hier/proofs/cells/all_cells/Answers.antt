use Rattle.std.proofs.Common.{◌-◌}
use Rattle.std.specs.Prelude.{◌^◌}
use Rattle.bb_ast.specs.Inside.Views.{expression}
use Rattle.bb_expr.specs.Inside.Shares.{own_cells}
use Rattle.bb_expr.specs.Inside.Occurrences.{OccursAt, ranges_at}
use Rattle.bb_hier.proofs.CellSums.{share_more, share_all, all_here}
use Rattle.bb_hier.proofs.cells.all_cells.Goals as goal

pub own_cells-requires : goal.own_cells-requires
own_cells-requires c = record { occurs = all_here (OccursAt c.args.checked.now c.args.place) expression c.args.all.now c.loop-expr.expr-index c.expr-item.result c.loop-expr-test.true c.expr-item.is c.requires.occurs }

pub loop-expr-preserved : goal.loop-expr-preserved
loop-expr-preserved c = share_more (own_cells (ranges_at c.args.checked.now c.args.place)) expression c.args.all.now c.loop-expr.expr-index (2 ^ 64 - 1) c.expr-item.result c.loop-expr.total c.own_cells.result c.saturating_add-total.result c.loop-expr-test.true c.expr-item.is c.loop-expr.invariant c.own_cells.ensures.cells c.saturating_add-total.ensures

pub returns : goal.returns
returns c = record { cells = share_all (own_cells (ranges_at c.args.checked.now c.args.place)) expression c.args.all.now c.loop-expr.expr-index (2 ^ 64 - 1) c.loop-expr.total c.loop-expr-test.false c.loop-expr.invariant }
