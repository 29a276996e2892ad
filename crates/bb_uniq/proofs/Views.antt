-- what is seen at a Ref
use Rattle.std.proofs.Common.{◌≡◌, ◌≢◌, ◌<◌, ◌==◌, ℕ, zero, suc, Bool, true, false, List, length, get_or, cond, Option, Some, None, refl, sym, ap, ◌∙◌, true≢false, arith}
use Rattle.bb_bits.specs.Truth.{variable, truth_at}
use Rattle.bb_uniq.specs.declared.store.Node.{Node}
use Rattle.bb_uniq.specs.declared.store.Ref.{Ref}
use Rattle.bb_uniq.specs.declared.store.View.{View}
use Rattle.bb_uniq.specs.declared.store.View.TheVariants as seen
use Rattle.bb_uniq.specs.Inside.Nodes.{NodeStore, node_at, view_by, view_of, IsRef, IsStore}
use Rattle.bb_uniq.specs.Inside.Meaning.{truth_of, branch}
use Rattle.bb_uniq.proofs.Given.{Given}
use Rattle.bb_uniq.proofs.Tables.{IsTruthTable-table, ref_node}

abbrev leaf_bit : View → Bool
leaf_bit (seen.Leaf b) = b
leaf_bit (seen.Node v lo hi) = false

abbrev lo_of : View → ℕ
lo_of (seen.Leaf b) = 0
lo_of (seen.Node v lo hi) = lo.0

abbrev hi_of : View → ℕ
hi_of (seen.Leaf b) = 0
hi_of (seen.Node v lo hi) = hi.0

abbrev is_leaf : View → Bool
is_leaf (seen.Leaf b) = true
is_leaf (seen.Node v lo hi) = false

numbered : (r : ℕ) (b : Bool) → r < 2 → (r == 1) ≡ b → r ≡ cond b 1 0
numbered zero false l e = refl
numbered zero true l e = absurd (true≢false (sym e))
numbered (suc zero) true l e = refl
numbered (suc zero) false l e = absurd (true≢false e)
numbered (suc (suc r)) b l e = absurd (omega (arith, l))

pub leaf_seen : (s : NodeStore) (r : ℕ) (b : Bool) → IsRef s r → view_of s r ≡ seen.Leaf b → r ≡ cond b 1 0
leaf_seen s r b ref e = by_node (node_at s.nodes r) refl e
  where
    by_node : (o : Option Node) → node_at s.nodes r ≡ o → view_by r o ≡ seen.Leaf b → r ≡ cond b 1 0
    by_node None at e = numbered r b (ref_node s.nodes r ref at) (ap leaf_bit e)
    by_node (Some node) at e = absurd (true≢false (sym (ap is_leaf e)))

pub children_differ : (s : NodeStore) → IsStore s → (r v : ℕ) (lo hi : Ref) → view_of s r ≡ seen.Node v lo hi → lo.0 ≢ hi.0
children_differ s sound r v lo hi e = by_node (node_at s.nodes r) refl e
  where
    by_node : (o : Option Node) → node_at s.nodes r ≡ o → view_by r o ≡ seen.Node v lo hi → lo.0 ≢ hi.0
    by_node None at e = absurd (true≢false (ap is_leaf e))
    by_node (Some node) at e = λ same. sound.reduced r node at (ap lo_of e ∙ (same ∙ sym (ap hi_of e)))

module _ (given : Given) where
  pub branch_at_point : (s : NodeStore) (v lo hi : ℕ) (point : List Bool) → v < s.vars → length point ≡ s.vars →
      truth_at (branch s v lo hi) point ≡ cond (get_or point v false) (truth_at (truth_of s hi) point) (truth_at (truth_of s lo) point)
  branch_at_point s v lo hi point l long =
      given.tables.combined_at_point s.vars (λ a b c. cond a b c) (variable s.vars v) (truth_of s hi) (truth_of s lo) point (given.tables.variable_size s.vars v l) (IsTruthTable-table s s.vars hi) (IsTruthTable-table s s.vars lo) long
      ∙ ap (λ b. cond b (truth_at (truth_of s hi) point) (truth_at (truth_of s lo) point)) (given.tables.variable_at_point s.vars v point l long)
