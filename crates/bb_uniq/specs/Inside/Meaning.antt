-- The meaning of a Ref is its truth table over all variables of its store. A store holds a bead where it is a bead of
-- the table of one of its Refs.
use Rattle.std.specs.Prelude.{◌≡◌, ◌<◌, ◌↔◌, ◌⊎◌, ◌==◌, ◌+◌, ℕ, zero, suc, if◌then◌else◌, List, Option, Some, None}
use Rattle.bb_bits.specs.Truth.{Truth, Bit, Halves, IsBeadOf, IsBeadOfAny, chosen, constant, variable}
use Rattle.bb_bits.specs.TruthSets.{HasMoreThan, HasAtMost}
use Rattle.bb_uniq.specs.declared.store.Node.{Node}
use Rattle.bb_uniq.specs.declared.store.View.{View}
use Rattle.bb_uniq.specs.declared.store.View.TheVariants as seen
use Rattle.bb_uniq.specs.Inside.Nodes.{NodeStore, node_at, IsRef, IsBelow, view_of}

-- the halves at the variable of which m follow, from the tables over those: the children's where the node is one of
-- that variable, and else the table of the Ref twice
abbrev pub halves_by : ℕ → ℕ → ℕ → (ℕ → Truth) → Option Node → Truth
halves_by n m r table None = Halves (table r) (table r)
halves_by n m r table (Some node) = if node.var + suc m == n then Halves (table node.lo) (table node.hi) else Halves (table r) (table r)

-- the table of r over the last m of n variables, where r depends on no other
unfoldable pub table_of : List Node → ℕ → ℕ → ℕ → Truth
table_of nodes n zero r = Bit (r == 1)
table_of nodes n (suc m) r = halves_by n m r (table_of nodes n m) (node_at nodes r)

-- the table of r over all variables
abbrev pub truth_of : NodeStore → ℕ → Truth
truth_of s r = table_of s.nodes s.vars s.vars r

-- a bead of the table of one of the Refs
abbrev pub IsHeld : NodeStore → Truth → Type 0
IsHeld s b = (r : ℕ) × IsRef s r × IsBeadOf b (truth_of s r)

-- the beads that are held, and those of a further table t
abbrev pub IsHeldWith : NodeStore → Truth → Truth → Type 0
IsHeldWith s t b = IsHeld s b ⊎ IsBeadOf b t

-- the beads held are exactly those of some tables
abbrev pub HoldsBeadsOf : NodeStore → List Truth → Type 0
HoldsBeadsOf s ts = (b : Truth) → IsHeld s b ↔ IsBeadOfAny ts b

-- each Ref is still there, with its view and its table
pub record Keeps (old new : NodeStore) : Type 0 where
  pub vars : new.vars ≡ old.vars
  pub limit : new.limit ≡ old.limit
  pub refs : (r : ℕ) → IsRef old r → IsRef new r
  pub views : (r : ℕ) → IsRef old r → view_of new r ≡ view_of old r
  pub tables : (r : ℕ) → IsRef old r → truth_of new r ≡ truth_of old r

-- r has the table t; the beads held are those from before and those of t, which fit the limit
pub record Adds (old new : NodeStore) (t : Truth) (r : ℕ) : Type 0 where
  pub kept : Keeps old new
  pub ref : IsRef new r
  pub table : truth_of new r ≡ t
  pub beads : (b : Truth) → IsHeld new b ↔ IsHeldWith old t b
  pub fits : HasAtMost (IsHeldWith old t) old.limit

-- the beads held and those of t are more than the limit
abbrev pub IsTooMany : NodeStore → Truth → Type 0
IsTooMany s t = HasMoreThan (IsHeldWith s t) s.limit

-- if v then hi else lo, v being a variable
abbrev pub branch : NodeStore → ℕ → ℕ → ℕ → Truth
branch s v lo hi = chosen (variable s.vars v) (truth_of s hi) (truth_of s lo)

-- what is seen at r gives its table: a leaf's is its bit everywhere, a node's is its branch, with both children below
-- its variable
abbrev pub ViewMeans : NodeStore → ℕ → View → Type 0
ViewMeans s r (seen.Leaf b) = truth_of s r ≡ constant s.vars b
ViewMeans s r (seen.Node v lo hi) = (v < s.vars) × IsBelow s v lo.0 × IsBelow s v hi.0 × (truth_of s r ≡ branch s v lo.0 hi.0)
