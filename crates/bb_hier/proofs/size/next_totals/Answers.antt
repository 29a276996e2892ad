use Rattle.std.proofs.Common.{◌+◌, ℕ, List, length}
use Rattle.std.specs.Prelude.{slice_index_or, sum_by}
use Rattle.bb_expr.specs.Inside.Shares.{capped}
use Rattle.bb_hier.proofs.DepthHeights.{callees_fit, heights_more}
use Rattle.bb_hier.proofs.size.next_totals.Goals as goal

pub total_of-requires-clause-own : goal.total_of-requires-clause-own
total_of-requires-clause-own c = callees_fit (length c.args.own.now) c.args.callees.now c.loop-called.called-index c.called-item.result c.deref.result.now c.requires.own c.loop-called-test.true c.called-item.is c.deref.ensures.value

pub total_of-requires-clause-totals : goal.total_of-requires-clause-totals
total_of-requires-clause-totals c = callees_fit (length c.args.totals.now) c.args.callees.now c.loop-called.called-index c.called-item.result c.deref.result.now c.requires.totals c.loop-called-test.true c.called-item.is c.deref.ensures.value

pub loop-called-preserved : goal.loop-called-preserved
loop-called-preserved c =
    heights_more (λ (called : List ℕ). capped (sum_by (λ (k : ℕ). slice_index_or c.args.own.now k 0 + slice_index_or c.args.totals.now k 0) called)) c.args.callees.now c.loop-called.called-index c.called-item.result c.deref.result.now c.loop-called.next.items _ c.total_of.result c.loop-called-test.true c.called-item.is c.deref.ensures.value
    c.loop-called.invariant c.in_ok-push.ensures.items c.total_of.ensures.total
