use Rattle.bb_word.proofs.ShiftSteps.{AreChosen}
use Rattle.bb_word.proofs.shifts.add_choices.Given as goal

abbrev pub invariant-loop-i : goal.invariant-loop-i
invariant-loop-i l = AreChosen l.choice l.chosen l.others l.fn.net l.net l.places.items l.i
