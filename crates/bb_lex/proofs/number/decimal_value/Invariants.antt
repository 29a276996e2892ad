use Rattle.std.proofs.Common.{◌≡◌, ◌<◌, ◌^◌, length}
use Rattle.bb_lex.specs.Numbers.{number}
use Rattle.bb_lex.proofs.Digits.{number_after}
use Rattle.bb_lex.proofs.number.decimal_value.Given as goal

abbrev pub invariant-loop-rest : goal.invariant-loop-rest
invariant-loop-rest l = (number_after 10 l.value l.rest ≡ number 10 l.bytes) × (l.value < 2 ^ 128)

abbrev pub decreases-loop-rest : goal.decreases-loop-rest
decreases-loop-rest l = length l.rest
