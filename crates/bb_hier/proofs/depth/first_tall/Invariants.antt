use Rattle.std.proofs.Common.{◌≡◌, ◌<◌, ◌-◌, ℕ, length, false}
use Rattle.std.specs.Prelude.{nat_le}
use Rattle.std.specs.List.{slice_index_or}
use Rattle.bb_hier.proofs.depth.first_tall.Given as goal

abbrev pub invariant-loop-k : goal.invariant-loop-k
invariant-loop-k l = (l.k < length l.called) × ((j : ℕ) → j < l.k → nat_le l.least (slice_index_or l.heights (slice_index_or l.called j 0) 0) ≡ false)

abbrev pub decreases-loop-k : goal.decreases-loop-k
decreases-loop-k l = length l.called - l.k
