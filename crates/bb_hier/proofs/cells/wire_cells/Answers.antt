use Rattle.std.proofs.Common.{ℕ, ◌-◌, List, Option}
use Rattle.std.specs.Prelude.{◌^◌, option_to_list, IfSome}
use Rattle.bb_ast.specs.Syntax.{Expression}
use Rattle.bb_ast.specs.Inside.Views.{named_view}
use Rattle.bb_expr.specs.Inside.Occurrences.{OccursAt, ranges_at}
use Rattle.bb_hier.specs.Inside.Weights.{initial_cells, IsNarrowNet}
use Rattle.bb_hier.proofs.CellSums.{share_more, share_all, all_here, all_within}
use Rattle.bb_hier.proofs.cells.wire_cells.Goals as goal

pub initial_cells-requires-clause-occurs : goal.initial_cells-requires-clause-occurs
initial_cells-requires-clause-occurs c = all_within (OccursAt c.args.checked.now c.args.place) (λ (x : List ℕ × Option Expression). option_to_list x.1) named_view c.args.nets.now c.loop-name.name-index c.loop-name-item.result c.loop-name-test.true c.loop-name-item.is c.requires.occurs

pub initial_cells-requires-clause-narrow : goal.initial_cells-requires-clause-narrow
initial_cells-requires-clause-narrow c = all_here (λ (x : List ℕ × Option Expression). IfSome x.1 (λ e. IsNarrowNet c.args.checked.now c.args.place x.0)) named_view c.args.nets.now c.loop-name.name-index c.loop-name-item.result c.loop-name-test.true c.loop-name-item.is c.requires.narrow

pub loop-name-preserved : goal.loop-name-preserved
loop-name-preserved c = share_more (initial_cells (ranges_at c.args.checked.now c.args.place)) named_view c.args.nets.now c.loop-name.name-index (2 ^ 64 - 1) c.loop-name-item.result c.loop-name.total c.initial_cells.result c.saturating_add-total.result c.loop-name-test.true c.loop-name-item.is c.loop-name.invariant c.initial_cells.ensures.cells c.saturating_add-total.ensures

pub returns : goal.returns
returns c = record { cells = share_all (initial_cells (ranges_at c.args.checked.now c.args.place)) named_view c.args.nets.now c.loop-name.name-index (2 ^ 64 - 1) c.loop-name.total c.loop-name-test.false c.loop-name.invariant }
