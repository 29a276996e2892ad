use Rattle.std.proofs.Common.{◌≡◌, length}
use Rattle.bb_lex.specs.Inside.Skips.{after_quote}
use Rattle.bb_lex.proofs.skip.after_quote.Given as goal

abbrev pub invariant-loop-rest : goal.invariant-loop-rest
invariant-loop-rest l = after_quote l.rest ≡ after_quote l.text

abbrev pub decreases-loop-rest : goal.decreases-loop-rest
decreases-loop-rest l = length l.rest
