-- What a reader expects of stores: of one store, of stores that grow, of the step of a recursion over cofactors, and of
-- the beads that a sequence of calls leaves.
use Rattle.std.specs.Prelude.{◌≡◌, ◌≢◌, ◌<◌, ◌≤◌, ◌+◌, ◌==◌, ℕ, suc, Bool, false, if◌then◌else◌, List, [], ◌∷◌, length, slice_index_or, All, Contains}
use Rattle.bb_bits.specs.Truth.{Truth, Halves, IsTruthTable, truth_at, lifted, constant, IsBeadOfAny}
use Rattle.bb_bits.specs.TruthSets.{HasMoreThan, HasAtMost}
use Rattle.bb_uniq.specs.declared.store.Ref.{Ref}
use Rattle.bb_uniq.specs.declared.store.View.TheVariants as seen
use Rattle.bb_uniq.specs.Inside.Nodes.{NodeStore, IsStore, IsRef, IsBelow, view_of, empty_store}
use Rattle.bb_uniq.specs.Inside.Meaning.{truth_of, branch, IsHeld, HoldsBeadsOf, Keeps, Adds, IsTooMany, ViewMeans}
use Rattle.bb_uniq.specs.Inside.Cofactors.{top_of, lo_seen, hi_seen, AreCofactors, IsReady}

-- one store
pub record StoreLaws : Type 0 where
  -- a store may have no node
  pub empty : (vars limit : ℕ) → IsStore (empty_store vars limit)
  -- each Ref has a table of the store's variables, a leaf its bit everywhere; what is seen at a Ref gives its table
  pub table_size : (s : NodeStore) (r : ℕ) → IsTruthTable s.vars (truth_of s r)
  pub leaf_table : (s : NodeStore) (r : ℕ) → r < 2 → truth_of s r ≡ constant s.vars (r == 1)
  pub view_means : (s : NodeStore) → IsStore s → (r : ℕ) → IsRef s r → ViewMeans s r (view_of s r)
  -- a leaf is 0 or 1 as its bit is, and the children of a node differ
  pub leaf_seen : (s : NodeStore) (r : ℕ) (b : Bool) → IsRef s r → view_of s r ≡ seen.Leaf b → r ≡ (if b then 1 else 0)
  pub children_differ : (s : NodeStore) → IsStore s → (r v : ℕ) (lo hi : Ref) → view_of s r ≡ seen.Node v lo hi → lo.0 ≢ hi.0
  -- a point leads from a node to the child for its variable's value
  pub branch_at_point : (s : NodeStore) (v lo hi : ℕ) (point : List Bool) → v < s.vars → length point ≡ s.vars
      → truth_at (branch s v lo hi) point ≡ (if slice_index_or point v false then truth_at (truth_of s hi) point else truth_at (truth_of s lo) point)
  -- Refs with the same table are the same Ref
  pub one_ref : (s : NodeStore) → IsStore s → (r q : ℕ) → IsRef s r → IsRef s q → truth_of s r ≡ truth_of s q → r ≡ q
  -- what is below a variable is a Ref, and its own variable is later; a Ref that is no leaf has a variable
  pub below_is_ref : (s : NodeStore) (v r : ℕ) → IsBelow s v r → IsRef s r
  pub top_below : (s : NodeStore) (v r : ℕ) → v < s.vars → IsBelow s v r → v < top_of s r
  pub inner_top : (s : NodeStore) → IsStore s → (r : ℕ) → IsRef s r → 2 ≤ r → top_of s r < s.vars
  -- a Ref whose table depends only on later variables is below
  pub below_from_table : (s : NodeStore) → IsStore s → (v m r : ℕ) (t : Truth) → v + suc m ≡ s.vars → IsRef s r → truth_of s r ≡ lifted (suc v) t → IsBelow s v r

-- stores that grow
pub record GrowthLaws : Type 0 where
  pub keeps_self : (s : NodeStore) → Keeps s s
  pub keeps_then : (a b c : NodeStore) → Keeps a b → Keeps b c → Keeps a c
  -- a bead that was held is still held
  pub beads_are_kept : (old new : NodeStore) → Keeps old new → (b : Truth) → IsHeld old b → IsHeld new b
  -- a result that is there already adds nothing
  pub adds_nothing : (s : NodeStore) → IsStore s → (t : Truth) (r : ℕ) → IsRef s r → truth_of s r ≡ t → Adds s s t r
  -- where a result was made, its beads are not too many
  pub full_is_exact : (old new : NodeStore) (t : Truth) (r : ℕ) → Adds old new t r → IsTooMany old t → ⊥

-- a result t with the halves a and b at the variable v, of which x and y are the tables over all variables
pub record StepLaws : Type 0 where
  -- what is seen at a Ref gives its cofactors, at each variable up to its own
  pub cofactors : (s : NodeStore) → IsStore s → (v m r : ℕ) → v + suc m ≡ s.vars → IsRef s r → v ≤ top_of s r → AreCofactors s v m r (lo_seen v r (view_of s r)) (hi_seen v r (view_of s r))
  -- where the beads of the first half are too many, so are those of t; and those of the second after the first was made
  pub first_refused : (old : NodeStore) (v : ℕ) (a b t x : Truth) → t ≡ lifted v (Halves a b) → x ≡ lifted (suc v) a → IsTooMany old x → IsTooMany old t
  pub second_refused : (old mid : NodeStore) (v : ℕ) (a b t x y : Truth) (r : ℕ) → t ≡ lifted v (Halves a b) → x ≡ lifted (suc v) a → y ≡ lifted (suc v) b →
      Adds old mid x r → IsTooMany mid y → IsTooMany old t
  -- where both were made, the node that joins them has the table t
  pub ready : (old mid last : NodeStore) → IsStore last → (v m : ℕ) (a b t x y : Truth) (r q : ℕ) → v + suc m ≡ old.vars → IsTruthTable m a → IsTruthTable m b →
      t ≡ lifted v (Halves a b) → x ≡ lifted (suc v) a → y ≡ lifted (suc v) b → Adds old mid x r → Adds mid last y q → IsReady old last v t r q
  pub node_refused : (old last : NodeStore) (v : ℕ) (t : Truth) (r q : ℕ) → IsReady old last v t r q → IsTooMany last (branch last v r q) → IsTooMany old t
  pub made : (old last new : NodeStore) → IsStore new → (v : ℕ) (t : Truth) (r q node : ℕ) → IsReady old last v t r q → Adds last new (branch last v r q) node → Adds old new t node

-- a sequence of calls, by the tables of its results
pub record SequenceLaws : Type 0 where
  -- a store of no node holds the beads of no table; each result adds its own
  pub start : (vars limit : ℕ) → HoldsBeadsOf (empty_store vars limit) []
  pub next : (old new : NodeStore) (t : Truth) (r : ℕ) (ts : List Truth) → HoldsBeadsOf old ts → Adds old new t r → HoldsBeadsOf new (t ∷ ts)
  -- the order of the tables, and how often each is listed, do not matter
  pub same_tables : (s : NodeStore) (ts us : List Truth) → All (Contains us) ts → All (Contains ts) us → HoldsBeadsOf s ts → HoldsBeadsOf s us
  -- a store holds no more beads than its limit; where a result has too many, so has each list that goes on with it
  pub at_most : (s : NodeStore) (ts : List Truth) → IsStore s → HoldsBeadsOf s ts → HasAtMost (IsBeadOfAny ts) s.limit
  pub too_many : (s : NodeStore) (t : Truth) (ts us : List Truth) → HoldsBeadsOf s ts → IsTooMany s t → All (Contains us) (t ∷ ts) → HasMoreThan (IsBeadOfAny us) s.limit
