use Rattle.std.proofs.Common.{◌≡◌, ◌≤◌, ◌+◌, ◌-◌, ◌*◌, ◌^◌, length, drop}
use Rattle.bb_bits.specs.Numbers.{number_of}
use Rattle.bb_nest.proofs.spelling.spell.Given as goal

-- the bits after are those of what is not left
abbrev pub invariant-loop-i : goal.invariant-loop-i
invariant-loop-i l = (l.i ≤ length l.fn.bits) × (length l.bits ≡ length l.fn.bits) × (l.left * 2 ^ (length l.fn.bits - l.i) + number_of (drop l.i l.bits) ≡ l.number)

abbrev pub decreases-loop-i : goal.decreases-loop-i
decreases-loop-i l = l.i
