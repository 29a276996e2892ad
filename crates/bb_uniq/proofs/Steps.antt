-- the step of a recursion over diagrams: two results over the later variables, and the node that joins them
use Rattle.std.proofs.Common.{◌≡◌, ℕ, suc, ◌+◌, refl, sym, ap, ap₂, ◌∙◌, subst, inl, inr, arith}
use Rattle.std.proofs.lemmas.List.Elements.{All-weaker}
use Rattle.bb_bits.specs.Truth.{Truth, Halves, IsTruthTable, lifted, chosen, variable, IsBeadOf}
use Rattle.bb_uniq.proofs.Given.{Given}
use Rattle.bb_uniq.specs.Inside.Nodes.{NodeStore, IsRef, IsBelow, IsStore}
use Rattle.bb_uniq.specs.Inside.Meaning.{truth_of, IsHeld, IsHeldWith, Adds, IsTooMany, branch}
use Rattle.bb_uniq.specs.Inside.Cofactors.{AreCofactors, IsReady}
use Rattle.bb_uniq.proofs.Tables.{IsWithin, table, table-lifted, within_from_ref, within_from_below, below_from_within, IsTruthTable-table, settled}
use Rattle.bb_uniq.proofs.Growth.{Keeps-then}
use Rattle.bb_uniq.proofs.Making.{adds, table-branch, chosen-variable}

-- a table that depends on later variables alone is that of a Ref below
pub below_from_table : (s : NodeStore) → IsStore s → (v m r : ℕ) (a : Truth) → v + suc m ≡ s.vars → IsRef s r → truth_of s r ≡ lifted (suc v) a → IsBelow s v r
below_from_table s h v m r a level ref e =
    let n : suc v + m ≡ s.vars = omega (arith, level) in
    let w : IsWithin s (suc v + m) r = subst (λ i. IsWithin s i r) (sym n) (within_from_ref s r ref) in
    let t : table s (suc v + m) r ≡ lifted (suc v) a = ap (λ i. table s i r) n ∙ e in
    below_from_within s m v r level (settled s h (suc v) m r a w t).0

-- more beads than the limit, from fewer
too_many_weaker : (old new : NodeStore) (x t : Truth) → new.limit ≡ old.limit → ((b : Truth) → IsHeldWith new x b → IsHeldWith old t b) → IsTooMany new x → IsTooMany old t
too_many_weaker old new x t limit f many = (many.0, many.1, All-weaker (IsHeldWith new x) (IsHeldWith old t) f many.0 many.2, omega (arith, many.3, limit))

module _ (given : Given) where
  -- the beads of both parts are beads of the whole
  pub bead_of_first : (v : ℕ) (a b t x : Truth) → t ≡ lifted v (Halves a b) → IsBeadOf x (lifted (suc v) a) → IsBeadOf x t
  bead_of_first v a b t x e h = subst (IsBeadOf x) (sym e) ((given.beads.lifted v x (Halves a b)).1 ((given.beads.halves x a b).1 (inr (inl ((given.beads.lifted (suc v) x a).0 h)))))

  pub bead_of_second : (v : ℕ) (a b t x : Truth) → t ≡ lifted v (Halves a b) → IsBeadOf x (lifted (suc v) b) → IsBeadOf x t
  bead_of_second v a b t x e h = subst (IsBeadOf x) (sym e) ((given.beads.lifted v x (Halves a b)).1 ((given.beads.halves x a b).1 (inr (inr ((given.beads.lifted (suc v) x b).0 h)))))

  -- the first result was refused
  pub too_many_first : (old : NodeStore) (v : ℕ) (a b t x : Truth) → t ≡ lifted v (Halves a b) → x ≡ lifted (suc v) a → IsTooMany old x → IsTooMany old t
  too_many_first old v a b t x whole first =
      too_many_weaker old old x t refl (λ c held. elim held [ inl before ↦ inl before | inr bead ↦ inr (bead_of_first v a b t c whole (subst (IsBeadOf c) first bead)) ])

  -- what is held after the first result
  held_after_first : (old mid : NodeStore) (v : ℕ) (a b t x : Truth) (r : ℕ) → t ≡ lifted v (Halves a b) → x ≡ lifted (suc v) a → Adds old mid x r → (c : Truth) → IsHeld mid c → IsHeldWith old t c
  held_after_first old mid v a b t x r whole first added c held =
      elim ((added.beads c).0 held) [ inl before ↦ inl before | inr bead ↦ inr (bead_of_first v a b t c whole (subst (IsBeadOf c) first bead)) ]

  -- the second result was refused
  pub too_many_second : (old mid : NodeStore) (v : ℕ) (a b t x y : Truth) (r : ℕ) → t ≡ lifted v (Halves a b) → x ≡ lifted (suc v) a → y ≡ lifted (suc v) b → Adds old mid x r →
      IsTooMany mid y → IsTooMany old t
  too_many_second old mid v a b t x y r whole first second added =
      too_many_weaker old mid y t added.kept.limit (λ c held.
      elim held [ inl before ↦ held_after_first old mid v a b t x r whole first added c before | inr bead ↦ inr (bead_of_second v a b t c whole (subst (IsBeadOf c) second bead)) ])

  pub parts : (old mid last : NodeStore) → IsStore last → (v m : ℕ) (a b t x y : Truth) (r q : ℕ) → v + suc m ≡ old.vars → IsTruthTable m a → IsTruthTable m b →
      t ≡ lifted v (Halves a b) → x ≡ lifted (suc v) a → y ≡ lifted (suc v) b → Adds old mid x r → Adds mid last y q → IsReady old last v t r q
  parts old mid last h v m a b t x y r q level a_size b_size whole first second added also =
      let vars : last.vars ≡ old.vars = also.kept.vars ∙ added.kept.vars in
      let level' : v + suc m ≡ last.vars = omega (arith, level, vars) in
      let lo_table : truth_of last r ≡ lifted (suc v) a = also.kept.tables r added.ref ∙ (added.table ∙ first) in
      let hi_table : truth_of last q ≡ lifted (suc v) b = also.table ∙ second in
      record {
        kept = Keeps-then old mid last added.kept also.kept;
        held = λ c held. elim ((also.beads c).0 held) [ inl before ↦ held_after_first old mid v a b t x r whole first added c before | inr bead ↦ inr (bead_of_second v a b t c whole (subst (IsBeadOf c) second bead)) ];
        lo_below = below_from_table last h v m r a level' (also.kept.refs r added.ref) lo_table;
        hi_below = below_from_table last h v m q b level' also.ref hi_table;
        branch_is =
            ap₂ (λ i j. chosen (variable last.vars v) i j) hi_table lo_table
            ∙ (ap (λ n. chosen (variable n v) (lifted (suc v) b) (lifted (suc v) a)) (sym level') ∙ (chosen-variable given v m a b a_size b_size ∙ sym whole));
      }

  -- the node that joins them was refused
  pub too_many_last : (old last : NodeStore) (v : ℕ) (t : Truth) (r q : ℕ) → IsReady old last v t r q → IsTooMany last (branch last v r q) → IsTooMany old t
  too_many_last old last v t r q p =
      too_many_weaker old last (branch last v r q) t p.kept.limit (λ c held. elim held [ inl before ↦ p.held c before | inr bead ↦ inr (subst (IsBeadOf c) p.branch_is bead) ])

  -- the node that joins them was made
  pub adds_joined : (old last new : NodeStore) → IsStore new → (v : ℕ) (t : Truth) (r q node : ℕ) → IsReady old last v t r q → Adds last new (branch last v r q) node → Adds old new t node
  adds_joined old last new h v t r q node p added =
      adds given old new t node h (Keeps-then old last new p.kept added.kept) added.ref (added.table ∙ p.branch_is)
      (λ c held. elim ((added.beads c).0 held) [ inl before ↦ p.held c before | inr bead ↦ inr (subst (IsBeadOf c) p.branch_is bead) ])

  -- a node splits into its children
  pub splits_node : (s : NodeStore) (v m r lo hi : ℕ) → v + suc m ≡ s.vars → IsBelow s v lo → IsBelow s v hi → truth_of s r ≡ branch s v lo hi → AreCofactors s v m r lo hi
  splits_node s v m r lo hi level lo_below hi_below e =
      let n : suc v + m ≡ s.vars = omega (arith, level) in
      record {
        first = table s m lo;
        second = table s m hi;
        first_size = IsTruthTable-table s m lo;
        second_size = IsTruthTable-table s m hi;
        lo_below = lo_below;
        hi_below = hi_below;
        whole = e ∙ table-branch given s v m lo hi level lo_below hi_below;
        lo_table = ap (λ i. table s i lo) (sym n) ∙ table-lifted s (suc v) m lo (within_from_below s m v lo level lo_below);
        hi_table = ap (λ i. table s i hi) (sym n) ∙ table-lifted s (suc v) m hi (within_from_below s m v hi level hi_below);
      }

  -- what is below a variable splits into itself
  pub splits_later : (s : NodeStore) (v m r : ℕ) → v + suc m ≡ s.vars → IsBelow s v r → AreCofactors s v m r r r
  splits_later s v m r level below =
      let n : suc v + m ≡ s.vars = omega (arith, level) in
      let tab : truth_of s r ≡ lifted (suc v) (table s m r) = ap (λ i. table s i r) (sym n) ∙ table-lifted s (suc v) m r (within_from_below s m v r level below) in
      record {
        first = table s m r;
        second = table s m r;
        first_size = IsTruthTable-table s m r;
        second_size = IsTruthTable-table s m r;
        lo_below = below;
        hi_below = below;
        whole = tab ∙ given.tables.lifted_once_more v (table s m r);
        lo_table = tab;
        hi_table = tab;
      }
