use Rattle.std.proofs.Common.{length}
use Rattle.std.specs.List.{slice_index_or}
use Rattle.bb_hier.specs.Inside.Depths.{height_over}
use Rattle.bb_hier.proofs.DepthHeights.{callees_fit, heights_more}
use Rattle.bb_hier.proofs.depth.next_heights.Goals as goal

pub height_over-requires-clause-there : goal.height_over-requires-clause-there
height_over-requires-clause-there c = callees_fit (length c.args.heights.now) c.args.callees.now c.loop-called.called-index c.called-item.result c.deref.result.now c.requires.there c.loop-called-test.true c.called-item.is c.deref.ensures.value

pub loop-called-preserved : goal.loop-called-preserved
loop-called-preserved c =
    heights_more (height_over (λ k. slice_index_or c.args.heights.now k 0)) c.args.callees.now c.loop-called.called-index c.called-item.result c.deref.result.now c.loop-called.next.items _ c.height_over.result c.loop-called-test.true c.called-item.is c.deref.ensures.value
    c.loop-called.invariant c.in_ok-push.ensures.items c.height_over.ensures.height
