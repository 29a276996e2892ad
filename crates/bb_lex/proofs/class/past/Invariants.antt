use Rattle.std.proofs.Common.{◌≡◌, length}
use Rattle.bb_lex.specs.Bytes.{past}
use Rattle.bb_lex.specs.Inside.Runs.{is_of}
use Rattle.bb_lex.proofs.class.past.Given as goal

abbrev pub invariant-loop-rest : goal.invariant-loop-rest
invariant-loop-rest l = past (is_of l.class) l.rest ≡ past (is_of l.class) l.text

abbrev pub decreases-loop-rest : goal.decreases-loop-rest
decreases-loop-rest l = length l.rest
