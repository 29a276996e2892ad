-- a walk from node to child
use Rattle.std.proofs.Common.{◌≡◌, ◌≢◌, ◌<◌, ◌≤◌, ◌==◌, ℕ, Bool, true, false, not, List, length, set, get_or, cond, refl, sym, ap, ◌∙◌, subst, eqb, eqb-true, true≢false, arith}
use Rattle.bb_bits.specs.Truth.{truth_at}
use Rattle.bb_uniq.specs.declared.store.Ref.{Ref}
use Rattle.bb_uniq.specs.declared.store.View.TheVariants as seen
use Rattle.bb_uniq.specs.Inside.Nodes.{NodeStore, IsRef, view_of}
use Rattle.bb_uniq.specs.Inside.Meaning.{ViewMeans, truth_of}
use Rattle.bb_uniq.specs.Inside.Cofactors.{variable_seen, top_of}
use Rattle.bb_quant.specs.Inside.LeastPoints.{IsLeastPoint}
use Rattle.bb_bits.specs.Laws.TruthLaws.{TableLaws}
use Rattle.bb_uniq.specs.Laws.{StoreLaws}
use Rattle.bb_quant.proofs.Given.{NumbersAreBelow}
use Rattle.bb_quant.proofs.FirstBits.{least_in_first, least_in_second, least_of_one}

-- the leaf of the other bit
pub other_leaf : (r k : ℕ) (want : Bool) → k ≡ cond (not want) 1 0 → eqb r k ≡ true → r ≡ cond want 0 1
other_leaf r k true e test = eqb-true r k test ∙ e
other_leaf r k false e test = eqb-true r k test ∙ e

-- a leaf that is not the leaf of the other bit
leaf_taken : (r : ℕ) (b want : Bool) → r ≡ cond b 1 0 → r ≢ cond want 0 1 → b ≡ want
leaf_taken r true true e h = refl
leaf_taken r false false e h = refl
leaf_taken r true false e h = absurd (h e)
leaf_taken r false true e h = absurd (h e)

module _ (stores : StoreLaws) where
  -- a point leads to the child for its variable's value
  pub to_first : (s : NodeStore) (f v : ℕ) (lo hi : Ref) (q : List Bool) → ViewMeans s f (seen.Node v lo hi) → length q ≡ s.vars → get_or q v false ≡ false → truth_at (truth_of s f) q ≡ truth_at (truth_of s lo.0) q
  to_first s f v lo hi q means long bit =
      ap (λ t. truth_at t q) means.3 ∙ (stores.branch_at_point s v lo.0 hi.0 q means.0 long ∙ ap (λ b. cond b (truth_at (truth_of s hi.0) q) (truth_at (truth_of s lo.0) q)) bit)

  pub to_second : (s : NodeStore) (f v : ℕ) (lo hi : Ref) (q : List Bool) → ViewMeans s f (seen.Node v lo hi) → length q ≡ s.vars → get_or q v false ≡ true → truth_at (truth_of s f) q ≡ truth_at (truth_of s hi.0) q
  to_second s f v lo hi q means long bit =
      ap (λ t. truth_at t q) means.3 ∙ (stores.branch_at_point s v lo.0 hi.0 q means.0 long ∙ ap (λ b. cond b (truth_at (truth_of s hi.0) q) (truth_at (truth_of s lo.0) q)) bit)

  module _ (tables : TableLaws) where
    leaf_at : (s : NodeStore) (r : ℕ) (q : List Bool) → r < 2 → length q ≡ s.vars → truth_at (truth_of s r) q ≡ (r == 1)
    leaf_at s r q l long = ap (λ t. truth_at t q) (stores.leaf_table s r l) ∙ tables.constant_at_point s.vars (r == 1) q long

    -- the leaf of the other bit has no point
    pub none_at_leaf : (s : NodeStore) (r : ℕ) (want : Bool) (q : List Bool) → r ≡ cond want 0 1 → length q ≡ s.vars → truth_at (truth_of s r) q ≡ want → ⊥
    none_at_leaf s r true q e long h = absurd (true≢false (sym (sym (leaf_at s 0 q (omega arith) long) ∙ (ap (λ k. truth_at (truth_of s k) q) (sym e) ∙ h))))
    none_at_leaf s r false q e long h = absurd (true≢false (sym (leaf_at s 1 q (omega arith) long) ∙ (ap (λ k. truth_at (truth_of s k) q) (sym e) ∙ h)))

    -- the walk ends at a leaf of the bit
    pub least_at_leaf : (s : NodeStore) (f : ℕ) (b want : Bool) (p : List Bool) → IsRef s f → view_of s f ≡ seen.Leaf b → ViewMeans s f (seen.Leaf b) → f ≢ cond want 0 1 → length p ≡ s.vars →
        IsLeastPoint (truth_of s f) want (top_of s f) p p
    least_at_leaf s f b want p ref view means other long =
        let top : top_of s f ≡ s.vars = ap (variable_seen s.vars) view in
        let bit : b ≡ want = leaf_taken f b want (stores.leaf_seen s f b ref view) other in
        least_of_one (truth_of s f) want (top_of s f) p (long ∙ sym top) (ap (λ t. truth_at t p) means ∙ (tables.constant_at_point s.vars b p long ∙ bit))

    module _ (below : NumbersAreBelow) where
      pub least_by_first : (s : NodeStore) (f v : ℕ) (lo hi : Ref) (want : Bool) (point p : List Bool) → view_of s f ≡ seen.Node v lo hi → ViewMeans s f (seen.Node v lo hi) → length point ≡ s.vars →
          ((i : ℕ) → top_of s f ≤ i → get_or point i false ≡ false) → IsLeastPoint (truth_of s lo.0) want (top_of s lo.0) point p → IsLeastPoint (truth_of s f) want (top_of s f) point p
      least_by_first s f v lo hi want point p view means long zeros x =
          let top : top_of s f ≡ v = ap (variable_seen s.vars) view in
          let later = stores.top_below s v lo.0 means.0 means.1 in
          subst (λ k. IsLeastPoint (truth_of s f) want k point p) (sym top)
          (least_in_first below (truth_of s f) (truth_of s lo.0) want v (top_of s lo.0) point p later (λ i l. zeros i (omega (arith, top, l)))
          (λ q e bit. to_first s f v lo hi q means (e ∙ long) bit) x)

      pub least_by_second : (s : NodeStore) (f v : ℕ) (lo hi : Ref) (want : Bool) (point p : List Bool) → view_of s f ≡ seen.Node v lo hi → ViewMeans s f (seen.Node v lo hi) → length point ≡ s.vars →
          ((i : ℕ) → top_of s f ≤ i → get_or point i false ≡ false) → lo.0 ≡ cond want 0 1 → IsLeastPoint (truth_of s hi.0) want (top_of s hi.0) (set point v true) p → IsLeastPoint (truth_of s f) want (top_of s f) point p
      least_by_second s f v lo hi want point p view means long zeros leaf x =
          let top : top_of s f ≡ v = ap (variable_seen s.vars) view in
          let later = stores.top_below s v hi.0 means.0 means.2 in
          subst (λ k. IsLeastPoint (truth_of s f) want k point p) (sym top)
          (least_in_second below (truth_of s f) (truth_of s hi.0) want v (top_of s hi.0) point p (omega (arith, long, means.0)) later (λ i l. zeros i (omega (arith, top, l)))
          (λ q e bit. to_second s f v lo hi q means (e ∙ long) bit)
          (λ q e bit h. none_at_leaf s lo.0 want q leaf (e ∙ long) (sym (to_first s f v lo hi q means (e ∙ long) bit) ∙ h)) x)
