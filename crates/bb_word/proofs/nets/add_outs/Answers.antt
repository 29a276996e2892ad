use Rattle.std.proofs.Common.{◌∙◌, refl, arith}
use Rattle.bb_word.proofs.WordNets.{with_outs-more}
use Rattle.bb_word.proofs.nets.add_outs.Goals as goal

pub loop-place-preserved : goal.loop-place-preserved
loop-place-preserved c =
    c.in_ok-add_out.ensures.ok ∙ with_outs-more c.args.net.now c.args.places.now c.loop-place.place-index _ c.loop-place.net (omega arith) refl c.loop-place.invariant
