-- The meaning of a cached result, and what a call leaves of store and cache.
use Rattle.std.specs.Prelude.{◌≡◌, ◌<◌, ◌≤◌, ℕ, Bool, ◌&&◌, ◌||◌, if◌then◌else◌, List, length, Contains}
use Rattle.lru.specs.LruCache.{LruCache}
use Rattle.bb_bits.specs.Truth.{Truth, combined, quantified}
use Rattle.bb_uniq.specs.declared.store.Ref.{Ref}
use Rattle.bb_uniq.specs.Inside.Nodes.{NodeStore, IsRef, IsStore}
use Rattle.bb_uniq.specs.Inside.Meaning.{truth_of, Keeps}
use Rattle.bb_dd.specs.declared.key.Key.{Key}
use Rattle.bb_dd.specs.declared.key.Key.TheVariants.{Apply, Quantify}
use Rattle.bb_dd.specs.Inside.Operations.{value_of}

-- the table of an operation's result
abbrev pub result_table : NodeStore → (Bool → Bool → Bool → Bool) → ℕ → ℕ → ℕ → Truth
result_table s op f g h = combined op (truth_of s f) (truth_of s g) (truth_of s h)

-- how both halves are joined: "for all" by "and", "exists" by "or"
abbrev pub quantifier : Bool → Bool → Bool → Bool
quantifier all = λ a b. if all then a && b else a || b

-- the table that a key defines
abbrev pub table_of_key : NodeStore → Key → Truth
table_of_key s (Apply op f g h) = result_table s (value_of op) f.0 g.0 h.0
table_of_key s (Quantify all f v) = quantified (quantifier all) v (truth_of s f.0)

-- a key's operands are of the store
abbrev pub HasOperands : NodeStore → Key → Type 0
HasOperands s (Apply op f g h) = IsRef s f.0 × IsRef s g.0 × IsRef s h.0
HasOperands s (Quantify all f v) = IsRef s f.0 × (v < s.vars)

-- an entry's result has the table that its key defines
pub record IsRight (s : NodeStore) (e : Key × Ref) : Type 0 where
  pub operands : HasOperands s e.0
  pub ref : IsRef s e.1.0
  pub table : truth_of s e.1.0 ≡ table_of_key s e.0

abbrev pub AreRight : NodeStore → List (Key × Ref) → Type 0
AreRight s entries = (e : Key × Ref) → Contains entries e → IsRight s e

-- what operations keep of a cache: it has no fewer entries than before, and no entry of a quantifier that it had not
pub record KeepsEntries (old new : List (Key × Ref)) : Type 0 where
  pub no_fewer : length old ≤ length new
  pub quantified : (all : Bool) (f : Ref) (v : ℕ) (r : Ref) → Contains new (Quantify all f v, r) → Contains old (Quantify all f v, r)

-- every Ref is kept, and store and cache stay sound
pub record Leaves (old new : NodeStore) (before after : LruCache Key Ref) : Type 0 where
  pub kept : Keeps old new
  pub store : IsStore new
  pub entries_right : AreRight new after.entries
  pub entries_kept : KeepsEntries before.entries after.entries
  pub capacity : after.cap ≡ before.cap
