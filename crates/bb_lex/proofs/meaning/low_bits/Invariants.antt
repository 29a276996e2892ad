use Rattle.std.proofs.Common.{◌≡◌, ◌≤◌, ◌++◌}
use Rattle.bb_lex.specs.Numbers.{weighted_bits}
use Rattle.bb_lex.proofs.meaning.low_bits.Given as goal

abbrev pub invariant-loop-left : goal.invariant-loop-left
invariant-loop-left l = (l.bits.items ++ weighted_bits l.left l.value ≡ weighted_bits l.size l.value) × (l.left ≤ l.size)

abbrev pub decreases-loop-left : goal.decreases-loop-left
decreases-loop-left l = l.left
