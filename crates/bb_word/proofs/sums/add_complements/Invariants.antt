use Rattle.bb_word.proofs.SumSteps.{IsComplemented}
use Rattle.bb_word.proofs.sums.add_complements.Given as goal

abbrev pub invariant-loop-bit : goal.invariant-loop-bit
invariant-loop-bit l = IsComplemented l.bits l.fn.net l.net l.places.items l.bit-index
