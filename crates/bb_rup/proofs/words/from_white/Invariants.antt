use Rattle.std.proofs.Common.{◌≡◌, length}
use Rattle.std.specs.Char.{is_ascii_whitespace}
use Rattle.bb_rup.specs.Inside.Ahead.{from_first}
use Rattle.bb_rup.proofs.words.from_white.Given as goal

abbrev pub invariant-loop-b : goal.invariant-loop-b
invariant-loop-b l = from_first is_ascii_whitespace l.rest ≡ from_first is_ascii_whitespace l.text

abbrev pub decreases-loop-b : goal.decreases-loop-b
decreases-loop-b l = length l.rest
