use Rattle.std.proofs.Common.{◌-◌}
use Rattle.std.specs.Prelude.{◌^◌}
use Rattle.bb_ast.specs.Syntax.{PlainItem}
use Rattle.bb_ast.specs.Inside.Views.{item_view}
use Rattle.bb_expr.specs.Inside.Occurrences.{OccursAt, ranges_at, item_expressions}
use Rattle.bb_hier.specs.Inside.Weights.{item_cells, AreNarrowNets}
use Rattle.bb_hier.proofs.CellSums.{share_more, share_all, all_here, all_within}
use Rattle.bb_hier.proofs.cells.items_cells.Goals as goal

pub item_cells-requires-clause-occurs : goal.item_cells-requires-clause-occurs
item_cells-requires-clause-occurs c = all_within (OccursAt c.args.checked.now c.args.place) (λ (x : PlainItem). item_expressions x.body) item_view c.args.items.now c.loop-item.item-index c.item-item.result c.loop-item-test.true c.item-item.is c.requires.occurs

pub item_cells-requires-clause-narrow : goal.item_cells-requires-clause-narrow
item_cells-requires-clause-narrow c = all_here (λ (x : PlainItem). AreNarrowNets c.args.checked.now c.args.place x.body) item_view c.args.items.now c.loop-item.item-index c.item-item.result c.loop-item-test.true c.item-item.is c.requires.narrow

pub loop-item-preserved : goal.loop-item-preserved
loop-item-preserved c = share_more (λ (x : PlainItem). item_cells (ranges_at c.args.checked.now c.args.place) x.body) item_view c.args.items.now c.loop-item.item-index (2 ^ 64 - 1) c.item-item.result c.loop-item.total c.item_cells.result c.saturating_add-total.result c.loop-item-test.true c.item-item.is c.loop-item.invariant c.item_cells.ensures.cells c.saturating_add-total.ensures

pub returns : goal.returns
returns c = record { cells = share_all (λ (x : PlainItem). item_cells (ranges_at c.args.checked.now c.args.place) x.body) item_view c.args.items.now c.loop-item.item-index (2 ^ 64 - 1) c.loop-item.total c.loop-item-test.false c.loop-item.invariant }
