use Rattle.bb_word.proofs.ShiftSteps.{IsShifted}
use Rattle.bb_word.proofs.shifts.add_shift.Given as goal

abbrev pub invariant-loop-choice : goal.invariant-loop-choice
invariant-loop-choice l = IsShifted l.direction l.bits l.amount l.fn.net l.net l.shifted.items l.distance l.choice-index
