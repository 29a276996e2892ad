use Rattle.std.proofs.Common.{◌≡◌, ◌<◌, ◌%◌, ◌^◌, length}
use Rattle.bb_lex.specs.Numbers.{number}
use Rattle.bb_lex.proofs.Digits.{number_after}
use Rattle.bb_lex.proofs.number.low_value.Given as goal

abbrev pub invariant-loop-rest : goal.invariant-loop-rest
invariant-loop-rest l = (number_after l.radix l.value l.rest % 2 ^ 128 ≡ number l.radix l.bytes % 2 ^ 128) × (l.value < 2 ^ 128)

abbrev pub decreases-loop-rest : goal.decreases-loop-rest
decreases-loop-rest l = length l.rest
