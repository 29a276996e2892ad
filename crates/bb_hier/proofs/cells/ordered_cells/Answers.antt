use Rattle.std.proofs.Common.{◌-◌, map, Option, sym, ap, ◌∙◌}
use Rattle.std.specs.Prelude.{◌^◌, sum_by, option_to_list}
use Rattle.bb_ast.specs.Syntax.{Expression}
use Rattle.bb_ast.specs.Inside.Views.{optional_view}
use Rattle.bb_expr.specs.Inside.Shares.{capped, own_cells}
use Rattle.bb_expr.specs.Inside.Occurrences.{OccursAt, ranges_at}
use Rattle.bb_hier.proofs.CellSums.{share_more, share_all, all_within, sum_flat}
use Rattle.bb_hier.proofs.cells.ordered_cells.Goals as goal

pub connected_cells-requires : goal.connected_cells-requires
connected_cells-requires c = record { occurs = all_within (OccursAt c.args.checked.now c.args.place) option_to_list optional_view c.args.all.now c.loop-value.value-index c.value-item.result c.loop-value-test.true c.value-item.is c.requires.occurs }

pub loop-value-preserved : goal.loop-value-preserved
loop-value-preserved c = share_more (λ (x : Option Expression). sum_by (own_cells (ranges_at c.args.checked.now c.args.place)) (option_to_list x)) optional_view c.args.all.now c.loop-value.value-index (2 ^ 64 - 1) c.value-item.result c.loop-value.total c.connected_cells.result c.saturating_add-total.result c.loop-value-test.true c.value-item.is c.loop-value.invariant c.connected_cells.ensures.cells c.saturating_add-total.ensures

pub returns : goal.returns
returns c = record { cells = share_all (λ (x : Option Expression). sum_by (own_cells (ranges_at c.args.checked.now c.args.place)) (option_to_list x)) optional_view c.args.all.now c.loop-value.value-index (2 ^ 64 - 1) c.loop-value.total c.loop-value-test.false c.loop-value.invariant ∙ ap capped (sym (sum_flat (own_cells (ranges_at c.args.checked.now c.args.place)) option_to_list (map optional_view c.args.all.now))) }
