use Rattle.std.proofs.Common.{◌≡◌, ◌≤◌, ◌+◌, ◌-◌, ◌^◌, length}
use Rattle.bb_bits.specs.Numbers.{number_of}
use Rattle.bb_input.proofs.counting.count_up.Given as goal

-- the bits from here on were all 1 and are all 0
abbrev pub invariant-loop-i : goal.invariant-loop-i
invariant-loop-i l = (l.i ≤ length l.fn.bits) × (length l.bits ≡ length l.fn.bits) × (number_of l.bits + 2 ^ (length l.fn.bits - l.i) ≡ number_of l.fn.bits + 1)

abbrev pub decreases-loop-i : goal.decreases-loop-i
decreases-loop-i l = l.i
