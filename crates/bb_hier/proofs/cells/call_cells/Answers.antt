use Rattle.std.proofs.Common.{ℕ, ◌-◌, List}
use Rattle.std.specs.Prelude.{◌^◌, sum_by}
use Rattle.bb_ast.specs.Syntax.{PlainConns}
use Rattle.bb_ast.specs.Inside.Views.{call_view}
use Rattle.bb_expr.specs.Inside.Shares.{own_cells}
use Rattle.bb_expr.specs.Inside.Occurrences.{OccursAt, ranges_at, conns_expressions}
use Rattle.bb_hier.proofs.CellSums.{share_more, share_all, all_within}
use Rattle.bb_hier.proofs.cells.call_cells.Goals as goal

pub connection_cells-requires : goal.connection_cells-requires
connection_cells-requires c = record { occurs = all_within (OccursAt c.args.checked.now c.args.place) (λ (x : List ℕ × PlainConns). conns_expressions x.1) call_view c.args.calls.now c.loop-call.call-index c.call-item.result c.loop-call-test.true c.call-item.is c.requires.occurs }

pub loop-call-preserved : goal.loop-call-preserved
loop-call-preserved c = share_more (λ (x : List ℕ × PlainConns). sum_by (own_cells (ranges_at c.args.checked.now c.args.place)) (conns_expressions x.1)) call_view c.args.calls.now c.loop-call.call-index (2 ^ 64 - 1) c.call-item.result c.loop-call.total c.connection_cells.result c.saturating_add-total.result c.loop-call-test.true c.call-item.is c.loop-call.invariant c.connection_cells.ensures.cells c.saturating_add-total.ensures

pub returns : goal.returns
returns c = record { cells = share_all (λ (x : List ℕ × PlainConns). sum_by (own_cells (ranges_at c.args.checked.now c.args.place)) (conns_expressions x.1)) call_view c.args.calls.now c.loop-call.call-index (2 ^ 64 - 1) c.loop-call.total c.loop-call-test.false c.loop-call.invariant }
