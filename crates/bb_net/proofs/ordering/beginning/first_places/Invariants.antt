use Rattle.std.proofs.Common.{◌≡◌, ℕ, ◌+◌, ◌<◌, ◌≤◌, length}
use Rattle.bb_net.specs.Inside.Placings.{IsAt, IsOpen, open_count}
use Rattle.bb_net.proofs.ordering.beginning.first_places.Given as goal

abbrev pub invariant-loop-k : goal.invariant-loop-k
invariant-loop-k l = record {
  whole : length l.to.items ≡ l.cells;
  first : (j : ℕ) → j < l.k → IsAt l.to.items j j;
  free : (j : ℕ) → l.k ≤ j → IsOpen l.to.items j;
  count : l.k + open_count l.to.items ≡ l.cells;
}
