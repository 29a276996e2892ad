use Rattle.std.proofs.Common.{◌≡◌, ◌++◌, ◌-◌}
use Rattle.bb_bits.specs.Numbers.{bits_of}
use Rattle.bb_expr.proofs.rows.number_bits.Given as goal

abbrev pub invariant-loop-turn : goal.invariant-loop-turn
invariant-loop-turn l = l.bits.items ++ bits_of (32 - l.turn) l.rest ≡ bits_of 32 l.fn.number
