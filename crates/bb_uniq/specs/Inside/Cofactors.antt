-- The cofactors of a diagram at a variable (Shannon expansion): two diagrams of later variables, where it is 0 and
-- where it is 1; and the step of a recursion, which makes a result from those of its cofactors.
use Rattle.std.specs.Prelude.{◌≡◌, ℕ, suc, ◌==◌, if◌then◌else◌}
use Rattle.bb_bits.specs.Truth.{Truth, Halves, IsTruthTable, lifted}
use Rattle.bb_uniq.specs.declared.store.View.{View}
use Rattle.bb_uniq.specs.declared.store.View.TheVariants as seen
use Rattle.bb_uniq.specs.Inside.Nodes.{NodeStore, IsBelow, view_of}
use Rattle.bb_uniq.specs.Inside.Meaning.{truth_of, branch, IsHeld, IsHeldWith, Keeps}

-- the variable of what is seen; for a leaf the number of variables
abbrev pub variable_seen : ℕ → View → ℕ
variable_seen n (seen.Leaf b) = n
variable_seen n (seen.Node v lo hi) = v

-- the variable of r
abbrev pub top_of : NodeStore → ℕ → ℕ
top_of s r = variable_seen s.vars (view_of s r)

-- the cofactors of r at v, from what is seen at r: the children of a node of that variable, and else r itself
abbrev pub lo_seen : ℕ → ℕ → View → ℕ
lo_seen v r (seen.Leaf b) = r
lo_seen v r (seen.Node own lo hi) = if own == v then lo.0 else r

abbrev pub hi_seen : ℕ → ℕ → View → ℕ
hi_seen v r (seen.Leaf b) = r
hi_seen v r (seen.Node own lo hi) = if own == v then hi.0 else r

-- r is lo where the variable v is 0 and hi where it is 1; m variables follow v, and nothing depends on one before it
pub record AreCofactors (s : NodeStore) (v m r lo hi : ℕ) : Type 0 where
  pub first : Truth
  pub second : Truth
  pub first_size : IsTruthTable m first
  pub second_size : IsTruthTable m second
  pub lo_below : IsBelow s v lo
  pub hi_below : IsBelow s v hi
  pub whole : truth_of s r ≡ lifted v (Halves first second)
  pub lo_table : truth_of s lo ≡ lifted (suc v) first
  pub hi_table : truth_of s hi ≡ lifted (suc v) second

-- since the store was `old`, nothing was added but beads of t, and the node of v with the children lo and hi is to have
-- the table t
pub record IsReady (old now : NodeStore) (v : ℕ) (t : Truth) (lo hi : ℕ) : Type 0 where
  pub kept : Keeps old now
  pub held : (b : Truth) → IsHeld now b → IsHeldWith old t b
  pub lo_below : IsBelow now v lo
  pub hi_below : IsBelow now v hi
  pub branch_is : branch now v lo hi ≡ t
