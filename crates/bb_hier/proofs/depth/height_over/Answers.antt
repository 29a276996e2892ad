use Rattle.std.proofs.Common.{get_or, ap, ◌+◌, ◌∙◌}
use Rattle.std.specs.Prelude.{max}
use Rattle.std.specs.List.{slice_index_or}
use Rattle.bb_hier.proofs.DepthHeights.{height_more}
use Rattle.bb_hier.proofs.depth.height_over.Goals as goal

pub loop-k-preserved : goal.loop-k-preserved
loop-k-preserved c = height_more c.args.heights.now c.args.called.now c.loop-k.k-index c.max-height.result c.loop-k-test.true (c.max-height.ensures ∙ ap (λ h. max h (slice_index_or c.args.heights.now (get_or c.args.called.now c.loop-k.k-index 0) 0 + 1)) c.loop-k.invariant)
