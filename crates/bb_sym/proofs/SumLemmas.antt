-- sums of products and choices, operation by operation
use Rattle.std.proofs.Common.{◌≡◌, ℕ, ◌&&◌, ◌||◌, List, [], ◌∷◌, ◌++◌, ap₂, ◌∙◌, subst}
use Rattle.bb_bits.specs.Truth.{Truth, joined_tables}
use Rattle.bb_uniq.specs.declared.store.Ref.{Ref}
use Rattle.bb_uniq.specs.Inside.Nodes.{NodeStore, IsRef}
use Rattle.bb_uniq.specs.Inside.Meaning.{truth_of, Adds, IsTooMany}
use Rattle.bb_sym.specs.Functions.{both, either, sum_table, sum_tables, choice_table}
use Rattle.bb_sym.specs.Inside.Made.{Makes, AreTooMany, Represents}
use Rattle.bb_sym.proofs.MadeLemmas.{Makes-then, Makes-one, too_many_within, too_many_then, too_many_one, within_append_left}
use Rattle.bb_sym.proofs.OutputLoop.{first_refused, rest_refused, first_makes}

module _ (s : NodeStore) (a b c e : ℕ) (ra : IsRef s a) (rb : IsRef s b) (rc : IsRef s c) (re : IsRef s e) where
  abbrev p : Truth
  p = both (truth_of s a) (truth_of s b)

  abbrev q : Truth
  q = both (truth_of s c) (truth_of s e)

  abbrev sum : Truth
  sum = sum_table (truth_of s a) (truth_of s b) (truth_of s c) (truth_of s e)

  pub sum_refused_first : IsTooMany s p → AreTooMany s (p ∷ q ∷ sum ∷ [])
  sum_refused_first many = first_refused s p (q ∷ sum ∷ []) many

  module _ (m : NodeStore) (first : ℕ) (added : Adds s m p first) where
    second_is : both (truth_of m c) (truth_of m e) ≡ q
    second_is = ap₂ (joined_tables ◌&&◌) (added.kept.tables c rc) (added.kept.tables e re)

    pub sum_refused_second : IsTooMany m (both (truth_of m c) (truth_of m e)) → AreTooMany s (p ∷ q ∷ sum ∷ [])
    sum_refused_second many = rest_refused s m p (q ∷ sum ∷ []) first added (first_refused m q (sum ∷ []) (subst (IsTooMany m) second_is many))

    module _ (n : NodeStore) (second : ℕ) (also : Adds m n (both (truth_of m c) (truth_of m e)) second) where
      also_q : Adds m n q second
      also_q = subst (λ t. Adds m n t second) second_is also

      sum_is : either (truth_of n first) (truth_of n second) ≡ sum
      sum_is = ap₂ (joined_tables ◌||◌) (also.kept.tables first added.ref ∙ added.table) (also.table ∙ second_is)

      pub sum_refused_last : IsTooMany n (either (truth_of n first) (truth_of n second)) → AreTooMany s (p ∷ q ∷ sum ∷ [])
      sum_refused_last many = rest_refused s m p (q ∷ sum ∷ []) first added (rest_refused m n q (sum ∷ []) second also_q (too_many_one n sum (subst (IsTooMany n) sum_is many)))

      pub sum_makes : (new : NodeStore) (r : ℕ) → Adds n new (either (truth_of n first) (truth_of n second)) r → Makes s new (p ∷ q ∷ sum ∷ [])
      sum_makes new r last = first_makes s m new p (q ∷ sum ∷ []) first added (first_makes m n new q (sum ∷ []) second also_q (Makes-one n new sum r (subst (λ t. Adds n new t r) sum_is last)))

      pub sum_occurs : (new : NodeStore) (r : Ref) → Adds n new (either (truth_of n first) (truth_of n second)) r.0 → Represents new sum r
      sum_occurs new r last = record { ref = last.ref; table = last.table ∙ sum_is }

module _ (s : NodeStore) (c d t e : ℕ) (rt : IsRef s t) (re : IsRef s e) where
  abbrev sums : List Truth
  sums = sum_tables (truth_of s c) (truth_of s t) (truth_of s d) (truth_of s e)

  abbrev chosen : Truth
  chosen = sum_table (truth_of s c) (truth_of s t) (truth_of s d) (truth_of s e)

  abbrev same : Truth
  same = both (truth_of s t) (truth_of s e)

  abbrev whole : Truth
  whole = choice_table (truth_of s c) (truth_of s d) (truth_of s t) (truth_of s e)

  pub choice_refused_first : AreTooMany s sums → AreTooMany s (sums ++ same ∷ whole ∷ [])
  choice_refused_first many = too_many_within s sums (sums ++ same ∷ whole ∷ []) (within_append_left sums (same ∷ whole ∷ [])) many

  module _ (m : NodeStore) (first : Ref) (made : Makes s m sums) (occur : Represents m chosen first) where
    same_is : both (truth_of m t) (truth_of m e) ≡ same
    same_is = ap₂ (joined_tables ◌&&◌) (made.kept.tables t rt) (made.kept.tables e re)

    pub choice_refused_second : IsTooMany m (both (truth_of m t) (truth_of m e)) → AreTooMany s (sums ++ same ∷ whole ∷ [])
    choice_refused_second many = too_many_then s m sums (same ∷ whole ∷ []) made (first_refused m same (whole ∷ []) (subst (IsTooMany m) same_is many))

    module _ (n : NodeStore) (second : ℕ) (also : Adds m n (both (truth_of m t) (truth_of m e)) second) where
      also_same : Adds m n same second
      also_same = subst (λ u. Adds m n u second) same_is also

      whole_is : either (truth_of n first.0) (truth_of n second) ≡ whole
      whole_is = ap₂ (joined_tables ◌||◌) (also.kept.tables first.0 occur.ref ∙ occur.table) (also.table ∙ same_is)

      pub choice_refused_last : IsTooMany n (either (truth_of n first.0) (truth_of n second)) → AreTooMany s (sums ++ same ∷ whole ∷ [])
      choice_refused_last many = too_many_then s m sums (same ∷ whole ∷ []) made (rest_refused m n same (whole ∷ []) second also_same (too_many_one n whole (subst (IsTooMany n) whole_is many)))

      pub choice_makes : (new : NodeStore) (r : ℕ) → Adds n new (either (truth_of n first.0) (truth_of n second)) r → Makes s new (sums ++ same ∷ whole ∷ [])
      choice_makes new r last =
          Makes-then s m new sums (same ∷ whole ∷ []) made (first_makes m n new same (whole ∷ []) second also_same (Makes-one n new whole r (subst (λ u. Adds n new u r) whole_is last)))

      pub choice_occurs : (new : NodeStore) (r : Ref) → Adds n new (either (truth_of n first.0) (truth_of n second)) r.0 → Represents new whole r
      choice_occurs new r last = record { ref = last.ref; table = last.table ∙ whole_is }
