use Rattle.std.proofs.Common.{◌≡◌, ◌≤◌, length}
use Rattle.bb_rup.specs.Inside.Ahead.{words_at, IsCounted}
use Rattle.bb_rup.proofs.words.skip.Given as goal

-- the same words are ahead
abbrev pub invariant-loop-next : goal.invariant-loop-next
invariant-loop-next l = (words_at l.place ≡ words_at l.start) × IsCounted l.place × (length l.place.rest.now ≤ length l.start.rest.now)

abbrev pub decreases-loop-next : goal.decreases-loop-next
decreases-loop-next l = length l.place.rest.now
