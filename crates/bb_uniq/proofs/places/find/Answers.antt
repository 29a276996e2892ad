use Rattle.std.proofs.Common.{◌≡◌, ap, ◌∙◌, length, refl}
use Rattle.bb_uniq.specs.Inside.Probes.{place_after, at_place}
use Rattle.bb_uniq.proofs.ProbeLemmas.{absent_at_free, absent_past_all}
use Rattle.bb_uniq.proofs.places.find.Goals as goal

pub returns-then-mark-eq0-clause-none : goal.returns-then-mark-eq0-clause-none
returns-then-mark-eq0-clause-none c =
    let at : place_after (length c.args.places.now) c.args.node c.loop-steps.steps ≡ c.place.result = rw (c.place.ensures.place, c.hash-hash.ensures) refl in
    absent_at_free c.args.places.now c.args.nodes.now c.args.node c.loop-steps.steps c.requires.places c.loop-steps.invariant (ap (at_place c.args.places.now) at ∙ c.if-mark-eq0.true)

pub returns-clause-none : goal.returns-clause-none
returns-clause-none c = absent_past_all c.args.places.now c.args.nodes.now c.args.node c.loop-steps.steps c.requires.places c.loop-steps.invariant c.loop-steps-test.false
