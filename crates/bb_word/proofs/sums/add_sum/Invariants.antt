use Rattle.bb_word.proofs.SumSteps.{IsSummed}
use Rattle.bb_word.proofs.sums.add_sum.Given as goal

abbrev pub invariant-loop-i : goal.invariant-loop-i
invariant-loop-i l = IsSummed l.carry l.left l.right l.fn.net l.net l.places.items l.next l.i
