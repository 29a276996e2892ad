use Rattle.std.proofs.Common.{◌≡◌, ◌+◌, drop}
use Rattle.bb_bits.specs.Numbers.{number_of}
use Rattle.bb_bits.proofs.number.number.Given as goal

abbrev pub invariant-loop-i : goal.invariant-loop-i
invariant-loop-i l = l.number + number_of (drop l.i l.bits) ≡ number_of l.bits
