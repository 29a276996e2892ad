use Rattle.std.proofs.Common.{◌≡◌, length}
use Rattle.bb_rup.specs.Inside.Ahead.{is_newline, from_first}
use Rattle.bb_rup.proofs.words.from_newline.Given as goal

abbrev pub invariant-loop-b : goal.invariant-loop-b
invariant-loop-b l = from_first is_newline l.rest ≡ from_first is_newline l.text

abbrev pub decreases-loop-b : goal.decreases-loop-b
decreases-loop-b l = length l.rest
