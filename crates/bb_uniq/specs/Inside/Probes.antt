-- Open addressing with linear probing (Knuth, The Art of Computer Programming, volume 3, section 6.4). There are as
-- many places as a power of two. Each is free, or taken by the mark of a node. The probe of a node begins at the place
-- that its hash gives, goes from place to place, and after the last one to the first. So a free place on it shows that
-- the node is not there.
use Rattle.std.specs.Prelude.{◌≡◌, ◌≢◌, ◌<◌, ◌≤◌, ◌+◌, ◌*◌, ◌/◌, ◌%◌, ◌^◌, ℕ, zero, suc, List, [], ◌∷◌, length, slice_get, slice_index_or, Some}
use Rattle.std.specs.Int.{IsPowerOfTwo}
use Rattle.bb_uniq.specs.declared.store.Node.{Node}

-- the hash of a node, a sum of products modulo the word. Nothing is used of it but that a node has one
unfoldable pub hash_of : Node → ℕ
hash_of node = (node.var * 11400714819323198485 + node.lo * 13787848793156543929 + node.hi * 10723151780598845931) % 2 ^ 64

-- where the probe of a node is after some steps
abbrev pub place_after : ℕ → Node → ℕ → ℕ
place_after count node steps = (hash_of node / 2 ^ 32 + steps) % count

-- the mark of a node: its number in the list from 1 on, in the lower 26 bits, and six bits of its hash
abbrev pub mark_of : Node → ℕ → ℕ
mark_of node k = hash_of node / 2 ^ 58 * 2 ^ 26 + (k + 1)

-- the content of a place: 0 where it is free
abbrev pub at_place : List ℕ → ℕ → ℕ
at_place places place = slice_index_or places place 0

-- how many places are taken
unfoldable pub taken : List ℕ → ℕ
taken [] = 0
taken (zero ∷ places) = taken places
taken (suc mark ∷ places) = suc (taken places)

-- the probe of the k-th node comes to its mark, over taken places only
pub record IsMet (places : List ℕ) (node : Node) (k : ℕ) : Type 0 where
  pub steps : ℕ
  pub within : steps < length places
  pub here : at_place places (place_after (length places) node steps) ≡ mark_of node k
  pub before : (i : ℕ) → i < steps → at_place places (place_after (length places) node i) ≢ 0

-- the places of nodes: each node is met by its probe, each taken place has the mark of a node, and at least half of the
-- places are free
pub record ArePlaces (places : List ℕ) (nodes : List Node) : Type 0 where
  pub count : IsPowerOfTwo (length places)
  pub met : (k : ℕ) (node : Node) → slice_get nodes k ≡ Some node → IsMet places node k
  pub marks : (place : ℕ) → at_place places place ≢ 0 → (k : ℕ) × (node : Node) × (slice_get nodes k ≡ Some node) × (at_place places place ≡ mark_of node k)
  pub once : taken places ≡ length nodes
  pub half : 2 * length nodes ≤ length places

-- the room for the places of that many nodes: those in use may double within it until they are at least twice as many
-- as the nodes
pub record HasRoom (limit room places : ℕ) : Type 0 where
  pub whole : ℕ
  pub is_power : IsPowerOfTwo whole
  pub enough : 2 * limit ≤ whole
  pub within : whole ≤ room
  pub used : places ≤ whole
