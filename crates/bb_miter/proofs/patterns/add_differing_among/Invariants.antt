use Rattle.std.proofs.Common.{◌≡◌, ◌<◌, ◌≤◌, ℕ, [], All, length, map, vec_items}
use Rattle.bb_tern.specs.Inside.Lanes.{pattern_at}
use Rattle.bb_miter.specs.Inside.Equivalence.{DiffersAt, SameAt}
use Rattle.bb_miter.proofs.patterns.add_differing_among.Given as goal

abbrev pub invariant-loop-k : goal.invariant-loop-k
invariant-loop-k l = record {
  differ : All (DiffersAt l.spec l.imp) (map vec_items l.found.keys);
  few : length l.found.keys ≤ l.wanted;
  none : l.found.keys ≡ [] → (l.fn.found.keys ≡ []) × ((j : ℕ) → j < l.k → SameAt l.spec l.imp (pattern_at (map vec_items l.patterns) j));
}
