use Rattle.std.proofs.Common.{ap, refl, sym, ◌∙◌, arith}
use Rattle.bb_blast.specs.Inside.Counting.{capped}
use Rattle.bb_blast.specs.Inside.Listing.{given_one}
use Rattle.bb_blast.proofs.CappedNumbers.{capped_small}
use Rattle.bb_blast.proofs.ListingLoops.{place_next, row_next}
use Rattle.bb_blast.proofs.sources.give_in_row.Goals as goal

pub loop-bit-init : goal.loop-bit-init
loop-bit-init c = (refl, sym (ap capped (omega arith) ∙ capped_small c.args.base c.ranges.base.fits))

pub loop-bit-preserved : goal.loop-bit-preserved
loop-bit-preserved c = (
  row_next c.args.sources.now c.give.new.sources c.args.first c.args.base c.after.result c.loop-bit.place c.args.bits.now c.loop-bit.bit-index c.loop-bit-test.true c.after.ensures.number c.loop-bit.invariant.1
      (c.give.ensures.given ∙ ap (λ s. given_one s (c.after.result, c.loop-bit.place)) c.loop-bit.invariant.0),
  c.after-place.ensures.number ∙ place_next c.args.base c.loop-bit.place c.loop-bit.bit-index c.loop-bit.invariant.1,
)
