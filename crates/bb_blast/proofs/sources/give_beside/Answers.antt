use Rattle.std.proofs.Common.{get_or, refl, ap, ◌∙◌, arith}
use Rattle.bb_blast.specs.Inside.Listing.{given_one, given_all}
use Rattle.bb_blast.proofs.ListingLoops.{beside_next, beside_all}
use Rattle.bb_blast.proofs.sources.give_beside.Goals as goal

pub loop-k-preserved : goal.loop-k-preserved
loop-k-preserved c =
    beside_next c.args.sources.now c.give.new.sources c.args.first c.after.result (get_or c.args.places.now c.loop-k.k 0) c.args.bits.now c.args.places.now c.loop-k.k (omega (arith, c.min-k-end.ensures)) (omega (arith, c.min-k-end.ensures))
    c.after.ensures.number refl (c.give.ensures.given ∙ ap (λ s. given_one s (c.after.result, get_or c.args.places.now c.loop-k.k 0)) c.loop-k.invariant)

pub returns : goal.returns
returns c = record { given = c.loop-k.invariant ∙ ap (given_all c.args.sources.now) (beside_all c.args.first c.args.bits.now c.args.places.now c.loop-k.k (omega (arith, c.min-k-end.ensures))) }
