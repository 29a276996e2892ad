-- variables on which a table does not depend
use Rattle.std.proofs.Common.{◌≡◌, ◌≢◌, ◌<◌, ◌≤◌, ℕ, zero, suc, ◌+◌, Bool, true, false, List, [], ◌∷◌, length, get_or, refl, sym, ap, ap₂, ◌∙◌, subst, inl, inr, arith}
use Rattle.std.specs.Prelude.{slice_set, if◌then◌else◌}
use Rattle.std.proofs.lemmas.Bool.{cases_eq, false≢true}
use Rattle.std.proofs.lemmas.List.{set-get_or, set-set, set_comm, length-set, get_or-set_other}
use Rattle.bb_bits.specs.Truth.{Truth, IsTruthTable, truth_at, quantified, quantified_block}
use Rattle.bb_bits.specs.Laws.TruthLaws.{TableLaws, QuantifierLaws}
use Rattle.bb_uniq.specs.Laws.{StoreLaws}
use Rattle.bb_uniq.specs.Inside.Nodes.{NodeStore}
use Rattle.bb_uniq.specs.Inside.Meaning.{truth_of, branch}
use Rattle.bb_sym.specs.Inside.Dependence.{IsIndependent, DependsAtMost, AreSeen}

module _ (tables : TableLaws) (quantifiers : QuantifierLaws) where
  -- such a variable quantified leaves the table
  pub independent_stays : (op : Bool → Bool → Bool) → ((b : Bool) → op b b ≡ b) → (n v : ℕ) (t : Truth) → v < n → IsTruthTable n t → IsIndependent n t v → quantified op v t ≡ t
  independent_stays op same n v t l size free =
      tables.points_fix_table n (quantified op v t) t (tables.quantified_size n v op t size) size (λ point long.
      quantifiers.at_point n v op t point l size long ∙ either point long (get_or point v false) refl)
    where
      either : (point : List Bool) → length point ≡ n → (b : Bool) → get_or point v false ≡ b → op (truth_at t (slice_set point v false)) (truth_at t (slice_set point v true)) ≡ truth_at t point
      either point long false e =
          ap (op (truth_at t (slice_set point v false))) (sym (free point long))
          ∙ (same (truth_at t (slice_set point v false)) ∙ ap (truth_at t) (ap (slice_set point v) (sym e) ∙ set-get_or point v false))
      either point long true e =
          ap (λ x. op x (truth_at t (slice_set point v true))) (free point long)
          ∙ (same (truth_at t (slice_set point v true)) ∙ ap (truth_at t) (ap (slice_set point v) (sym e) ∙ set-get_or point v false))

  -- and so does another one that was quantified before
  independent_quantified : (op : Bool → Bool → Bool) (n w v : ℕ) (t : Truth) → w < n → IsTruthTable n t → IsIndependent n t v → IsIndependent n (quantified op w t) v
  independent_quantified op n w v t l size free point long = at false ∙ (ap₂ op (turned false) (turned true) ∙ sym (at true))
    where
      at : (x : Bool) → truth_at (quantified op w t) (slice_set point v x) ≡ op (truth_at t (slice_set (slice_set point v x) w false)) (truth_at t (slice_set (slice_set point v x) w true))
      at x = quantifiers.at_point n w op t (slice_set point v x) l size (length-set point v x ∙ long)

      turned : (y : Bool) → truth_at t (slice_set (slice_set point v false) w y) ≡ truth_at t (slice_set (slice_set point v true) w y)
      turned y =
          elim (cases_eq v w) [
            | inl same ↦
                ap (truth_at t)
                ((ap (λ i. slice_set (slice_set point i false) w y) same ∙ set-set point w false y) ∙ sym (ap (λ i. slice_set (slice_set point i true) w y) same ∙ set-set point w true y))
            | inr other ↦
                ap (truth_at t) (set_comm point v w false y other)
                ∙ (free (slice_set point w y) (length-set point w y ∙ long) ∙ sym (ap (truth_at t) (set_comm point v w true y other)))
          ]

  independent_block : (op : Bool → Bool → Bool) (n v : ℕ) (t : Truth) → IsTruthTable n t → IsIndependent n t v → (k first : ℕ) → first + k ≤ n →
      IsTruthTable n (quantified_block op first k t) × IsIndependent n (quantified_block op first k t) v
  independent_block op n v t size free zero first l = (size, free)
  independent_block op n v t size free (suc k) first l =
      let rest = independent_block op n v t size free k (suc first) (omega (arith, l)) in
      let inner = quantified_block op (suc first) k t in
      (tables.quantified_size n first op inner rest.0, independent_quantified op n first v inner (omega (arith, l)) rest.0 rest.1)

  -- what was quantified from a later variable on
  pub independent_later : (op : Bool → Bool → Bool) (n v : ℕ) (t : Truth) → IsTruthTable n t → IsIndependent n t v → (k first : ℕ) → first + k ≤ n → IsIndependent n (quantified_block op first k t) v
  independent_later op n v t size free k first l = (independent_block op n v t size free k first l).1

-- a node depends on its variable and on those of its children
pub node_depends : StoreLaws → (s : NodeStore) (w lo hi : ℕ) (t : Truth) (before marked : List Bool) → w < s.vars → t ≡ branch s w lo hi → length marked ≡ length before →
    (w < length before → get_or marked w false ≡ true) → ((v : ℕ) → get_or marked v false ≡ false → get_or before v false ≡ false) → DependsAtMost s.vars (truth_of s lo) before → DependsAtMost s.vars (truth_of s hi) before →
    DependsAtMost s.vars t marked
node_depends stores s w lo hi t before marked l e len own others lo_free hi_free v inside free point long =
    ap (λ u. truth_at u (slice_set point v false)) e ∙ (at false ∙ (same ∙ (sym (at true) ∙ sym (ap (λ u. truth_at u (slice_set point v true)) e))))
  where
    apart : w ≢ v
    apart h = false≢true (sym free ∙ subst (λ i. get_or marked i false ≡ true) h (own (omega (arith, inside, len, h))))

    at : (x : Bool) → truth_at (branch s w lo hi) (slice_set point v x) ≡ (if get_or point w false then truth_at (truth_of s hi) (slice_set point v x) else truth_at (truth_of s lo) (slice_set point v x))
    at x =
        stores.branch_at_point s w lo hi (slice_set point v x) l (length-set point v x ∙ long)
        ∙ ap (λ b. if b then truth_at (truth_of s hi) (slice_set point v x) else truth_at (truth_of s lo) (slice_set point v x)) (get_or-set_other point v w x false apart)

    same : (if get_or point w false then truth_at (truth_of s hi) (slice_set point v false) else truth_at (truth_of s lo) (slice_set point v false)) ≡ (if get_or point w false then truth_at (truth_of s hi) (slice_set point v true) else truth_at (truth_of s lo) (slice_set point v true))
    same = ap₂ (λ x y. if get_or point w false then x else y) (hi_free v (omega (arith, inside, len)) (others v free) point long) (lo_free v (omega (arith, inside, len)) (others v free) point long)

-- more variables are marked
pub seen_more : (s : NodeStore) (seen before marked : List Bool) → length marked ≡ length before → ((v : ℕ) → get_or marked v false ≡ false → get_or before v false ≡ false) → AreSeen s seen before → AreSeen s seen marked
seen_more s seen before marked len others h r ref e v l free = h r ref e v (omega (arith, l, len)) (others v free)

-- one more diagram is seen
pub seen_one : (s : NodeStore) (seen marked : List Bool) (f : ℕ) → AreSeen s seen marked → DependsAtMost s.vars (truth_of s f) marked → AreSeen s (slice_set seen f true) marked
seen_one s seen marked f h own r ref e =
    elim (cases_eq r f) [
      | inl same ↦ subst (λ q. DependsAtMost s.vars (truth_of s q) marked) (sym same) own
      | inr other ↦ h r ref (sym (get_or-set_other seen f r true false other) ∙ e)
    ]

-- what was seen stays seen
pub still_seen : (seen : List Bool) (f r : ℕ) → get_or seen r false ≡ true → get_or (slice_set seen f true) r false ≡ true
still_seen [] f r e = e
still_seen (x ∷ seen) zero zero e = refl
still_seen (x ∷ seen) zero (suc r) e = e
still_seen (x ∷ seen) (suc f) zero e = e
still_seen (x ∷ seen) (suc f) (suc r) e = still_seen seen f r e
