use Rattle.std.proofs.Common.{◌+◌, refl, sym, subst, arith}
use Rattle.bb_word.proofs.ShiftSteps.{AreChosen, AreChosen-step}
use Rattle.bb_word.proofs.shifts.add_choices.Goals as goal

pub loop-i-preserved : goal.loop-i-preserved
loop-i-preserved c =
    subst (λ places. AreChosen c.args.choice c.args.chosen.now c.args.others.now c.args.net.now c.add_choice.new.net places (c.loop-i.i + 1)) (sym c.in_ok-push.ensures.items)
    (AreChosen-step c.args.choice c.args.chosen.now c.args.others.now c.args.net.now c.loop-i.net c.add_choice.new.net c.loop-i.places.items c.loop-i.i _ _ c.in_ok-place.place
    (omega arith) (omega (arith, c.requires.same)) refl refl c.in_ok-place.ensures.ok c.in_ok-place.ensures.place c.loop-i.invariant)
