use Rattle.std.proofs.Common.{◌<◌, ◌≤◌, ◌-◌, ℕ, length, map, vec_items}
use Rattle.bb_tern.specs.Inside.Lanes.{pattern_at}
use Rattle.bb_miter.specs.Inside.Equivalence.{SameAt}
use Rattle.bb_invariant.proofs.simulating.differing_vector.Given as goal

abbrev pub invariant-loop-start : goal.invariant-loop-start
invariant-loop-start l = record {
  within : l.start ≤ length l.vectors;
  same : (j : ℕ) → j < l.start → SameAt l.spec l.imp (pattern_at (map vec_items l.vectors) j);
}

abbrev pub decreases-loop-start : goal.decreases-loop-start
decreases-loop-start l = length l.vectors - l.start
