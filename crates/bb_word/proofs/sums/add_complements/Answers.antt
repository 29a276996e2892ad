use Rattle.std.proofs.Common.{◌+◌, refl, sym, subst, arith}
use Rattle.bb_word.proofs.SumSteps.{IsComplemented, IsComplemented-step}
use Rattle.bb_word.proofs.sums.add_complements.Goals as goal

pub loop-bit-preserved : goal.loop-bit-preserved
loop-bit-preserved c =
    subst (λ places. IsComplemented c.args.bits.now c.args.net.now c.add_complement.new.net places (c.loop-bit.bit-index + 1)) (sym c.in_ok-push.ensures.items)
    (IsComplemented-step c.args.bits.now c.args.net.now c.loop-bit.net c.add_complement.new.net c.loop-bit.places.items c.loop-bit.bit-index _ c.in_ok-place.place
    (omega arith) refl c.in_ok-place.ensures.ok c.in_ok-place.ensures.place c.loop-bit.invariant)
