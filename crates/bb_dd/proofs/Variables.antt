-- the table of a variable, and the bit of a branch at a point
use Rattle.std.proofs.Common.{◌≡◌, ◌<◌, ℕ, zero, suc, Bool, true, false, List, length, get_or, cond, refl, sym, ap, ap₂, ◌∙◌, arith}
use Rattle.bb_bits.specs.Truth.{Truth, Bit, Halves, IsTruthTable, constant, variable, chosen, truth_at}
use Rattle.bb_uniq.specs.Inside.Nodes.{NodeStore}
use Rattle.bb_uniq.specs.Inside.Meaning.{truth_of, branch}
use Rattle.bb_dd.proofs.Given.{Given}

-- the choice between true and false is the condition
chosen-constants : (n : ℕ) (t : Truth) → IsTruthTable n t → chosen t (constant n true) (constant n false) ≡ t
chosen-constants zero (Bit false) h = refl
chosen-constants zero (Bit true) h = refl
chosen-constants zero (Halves a b) h = absurd h
chosen-constants (suc n) (Bit b) h = absurd h
chosen-constants (suc n) (Halves a b) h = ap₂ Halves (chosen-constants n a h.0) (chosen-constants n b h.1)

module _ (given : Given) where
  pub branch-leaves : (s : NodeStore) (v : ℕ) → v < s.vars → branch s v 0 1 ≡ variable s.vars v
  branch-leaves s v l =
      ap₂ (λ x y. chosen (variable s.vars v) x y) (given.stores.leaf_table s 1 (omega arith)) (given.stores.leaf_table s 0 (omega arith))
      ∙ chosen-constants s.vars (variable s.vars v) (given.tables.variable_size s.vars v l)

  -- the steps of a walk along a point
  pub leaf_at_point : (s : NodeStore) (r : ℕ) (b : Bool) (point : List Bool) → truth_of s r ≡ constant s.vars b → length point ≡ s.vars → b ≡ truth_at (truth_of s r) point
  leaf_at_point s r b point e long = sym (ap (λ t. truth_at t point) e ∙ given.tables.constant_at_point s.vars b point long)

  pub step_to_hi : (s : NodeStore) (r v lo hi : ℕ) (point : List Bool) → v < s.vars → truth_of s r ≡ branch s v lo hi → length point ≡ s.vars → get_or point v false ≡ true →
      truth_at (truth_of s hi) point ≡ truth_at (truth_of s r) point
  step_to_hi s r v lo hi point l e long bit =
      let x = truth_at (truth_of s hi) point in
      let y = truth_at (truth_of s lo) point in
      sym (ap (λ t. truth_at t point) e ∙ (given.stores.branch_at_point s v lo hi point l long ∙ ap (λ b. cond b x y) bit))

  pub step_to_lo : (s : NodeStore) (r v lo hi : ℕ) (point : List Bool) → v < s.vars → truth_of s r ≡ branch s v lo hi → length point ≡ s.vars → get_or point v false ≡ false →
      truth_at (truth_of s lo) point ≡ truth_at (truth_of s r) point
  step_to_lo s r v lo hi point l e long bit =
      let x = truth_at (truth_of s hi) point in
      let y = truth_at (truth_of s lo) point in
      sym (ap (λ t. truth_at t point) e ∙ (given.stores.branch_at_point s v lo hi point l long ∙ ap (λ b. cond b x y) bit))
