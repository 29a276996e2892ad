-- Where buffers of a list of cells end, as far as it is noted.
use Rattle.std.specs.Prelude.{◌≡◌, ◌<◌, ℕ, List, Option, None, Some, length, slice_index_or}
use Rattle.bb_net.specs.Loose.{LooseList}
use Rattle.bb_net.specs.Orders.{IsCopySource}

-- where buffers lead from a place of the list to one that is no buffer, they lead to this one
abbrev pub EndsAt : LooseList → ℕ → ℕ → Type 0
EndsAt l place end = place < length l.cells → (n source : ℕ) → IsCopySource n l place source → end ≡ source

-- what is noted for a place is where buffers from it end
abbrev pub AreEnds : LooseList → List (Option ℕ) → Type 0
AreEnds l ends = (place end : ℕ) → slice_index_or ends place None ≡ Some end → EndsAt l place end
