-- The places of the nodes in a list in which each is once.
use Rattle.std.specs.Prelude.{◌≡◌, ◌≢◌, ◌<◌, ℕ, List, [], ◌∷◌, ◌++◌, length, slice_get, Some}
use Rattle.bb_uniq.specs.declared.store.Node.{Node}

-- the node is not in the list
abbrev pub IsAbsent : List Node → Node → Type 0
IsAbsent nodes node = (k : ℕ) → slice_get nodes k ≢ Some node

-- the node is number k: it was before, or it is put last, where there were fewer nodes than the limit
pub data IsNodeAt (old new : List Node) (limit : ℕ) (node : Node) (k : ℕ) : Type 0 where
  Before : new ≡ old → slice_get old k ≡ Some node → IsNodeAt old new limit node k
  Last : IsAbsent old node → length old < limit → new ≡ old ++ node ∷ [] → k ≡ length old → IsNodeAt old new limit node k
