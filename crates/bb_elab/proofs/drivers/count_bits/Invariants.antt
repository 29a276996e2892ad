use Rattle.std.proofs.Common.{ℕ, List, ◌++◌, take}
use Rattle.bb_elab.specs.Inside.DrivenNumbers.{IsTally}
use Rattle.bb_bits.specs.Inside.Places.{numbers_from}
use Rattle.bb_elab.proofs.drivers.count_bits.Given as goal

abbrev pub invariant-loop-bit : goal.invariant-loop-bit
invariant-loop-bit l = (numbers : List ℕ) → IsTally numbers l.initial.counts → IsTally (numbers ++ numbers_from l.first (take l.bit-index l.bits)) l.counts
