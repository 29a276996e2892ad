use Rattle.std.proofs.Common.{◌≡◌, ◌-◌, ◌++◌, length, take}
use Rattle.bb_bits.specs.Numbers.{bits_of}
use Rattle.bb_expand.proofs.numbers.spell.Given as goal

abbrev pub invariant-loop-i : goal.invariant-loop-i
invariant-loop-i l = (length l.bits ≡ l.count) × (take l.i l.bits ++ bits_of (l.count - l.i) l.rest ≡ bits_of l.count l.number)
