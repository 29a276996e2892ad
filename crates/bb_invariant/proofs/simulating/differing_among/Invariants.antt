use Rattle.std.proofs.Common.{◌<◌, ℕ, map, vec_items}
use Rattle.bb_tern.specs.Inside.Lanes.{pattern_at}
use Rattle.bb_miter.specs.Inside.Equivalence.{SameAt}
use Rattle.bb_invariant.proofs.simulating.differing_among.Given as goal

abbrev pub invariant-loop-k : goal.invariant-loop-k
invariant-loop-k l = (j : ℕ) → j < l.k → SameAt l.spec l.imp (pattern_at (map vec_items l.vectors) j)
