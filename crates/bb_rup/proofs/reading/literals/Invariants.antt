use Rattle.std.proofs.Common.{◌≡◌, ◌≤◌, length}
use Rattle.bb_rup.specs.Inside.Ahead.{words_with, IsCounted, literals_to_end}
use Rattle.bb_rup.proofs.reading.literals.Given as goal

abbrev pub invariant-words : goal.invariant-words
invariant-words l =
    (literals_to_end l.vars l.into.items (words_with l.found) ≡ literals_to_end l.vars l.initial.into.items (words_with l.first))
    × IsCounted l.found.after
    × (length l.found.after.rest.now ≤ length l.first.after.rest.now)

abbrev pub decreases-words : goal.decreases-words
decreases-words l = length l.found.after.rest.now
