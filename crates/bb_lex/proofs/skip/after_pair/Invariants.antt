use Rattle.std.proofs.Common.{◌≡◌, length}
use Rattle.bb_lex.specs.Inside.Skips.{after_pair}
use Rattle.bb_lex.proofs.skip.after_pair.Given as goal

abbrev pub invariant-loop-rest : goal.invariant-loop-rest
invariant-loop-rest l = after_pair l.x l.y l.rest ≡ after_pair l.x l.y l.text

abbrev pub decreases-loop-rest : goal.decreases-loop-rest
decreases-loop-rest l = length l.rest
