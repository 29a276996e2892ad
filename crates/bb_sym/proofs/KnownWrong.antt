-- what the check of unknown boxes finds, as a condition on vectors
use Rattle.std.proofs.Common.{◌≡◌, ◌≢◌, ◌<◌, ℕ, Bool, true, false, not, ◌&&◌, ◌||◌, List, length, take, drop, ◌++◌, Option, Some, None, IfSome, slice_index, refl, sym, ap, ◌∙◌, subst, subst₂, arith, append-nil, drop_of_length-le, take_all}
use Rattle.bb_lemmas.proofs.Bits.{not_true}
use Rattle.bb_bits.specs.Truth.{truth_at}
use Rattle.bb_net.specs.Netlists.{Netlist}
use Rattle.bb_net.specs.Equivalence.{IsVector, wanted_bit}
use Rattle.bb_net.specs.Conditions.{IsKnownWrong, MayBeRight, MayBeRightEverywhere}
use Rattle.bb_net.specs.Ternary.{tern, tern_of}
use Rattle.bb_uniq.specs.declared.store.Ref.{Ref}
use Rattle.bb_uniq.specs.Inside.Nodes.{NodeStore}
use Rattle.bb_uniq.specs.Inside.Meaning.{truth_of}
use Rattle.bb_quant.specs.Inside.LeastPoints.{IsLeastPoint}
use Rattle.bb_sym.specs.Functions.{is_one, is_zero, known_one, known_zero, spec_bit, high, low, sum_table, mismatch}
use Rattle.bb_sym.specs.Plain.{Function, table}
use Rattle.bb_sym.specs.Finds.{IsLeastVector, IsFirstFound}
use Rattle.bb_sym.specs.Inside.Made.{IsNowhereTrue, RepresentAll, ref_at}
use Rattle.bb_sym.proofs.FunctionTables.{truth_at-table, combined-table}
use Rattle.bb_sym.proofs.KnownTables.{sum-table}

-- a value in three values is known and is not the wanted bit
abbrev pub differs_known : Option Bool → Bool → Bool
differs_known v w = (is_one v && not w) || (is_zero v && w)

known_wrong : (v : Option Bool) (w : Bool) → differs_known v w ≡ true → (bit : Bool) × (v ≡ Some bit) × (w ≢ bit)
known_wrong None w e = let f : false ≡ true = e in absurd cc
known_wrong (Some true) true e = let f : false ≡ true = e in absurd cc
known_wrong (Some true) false e = (true, refl, λ f. cc)
known_wrong (Some false) true e = (false, refl, λ f. cc)
known_wrong (Some false) false e = let f : false ≡ true = e in absurd cc

wrong_known : (v : Option Bool) (w bit : Bool) → v ≡ Some bit → w ≢ bit → differs_known v w ≡ true
wrong_known None w bit e f = absurd cc
wrong_known (Some true) true bit e f = let same : true ≡ bit = cc in absurd (f same)
wrong_known (Some true) false bit e f = refl
wrong_known (Some false) true bit e f = refl
wrong_known (Some false) false bit e f = let same : false ≡ bit = cc in absurd (f same)

not_wrong : (v : Option Bool) (w : Bool) → differs_known v w ≡ false → IfSome v (λ bit. w ≡ bit)
not_wrong None w e = tt
not_wrong (Some true) true e = refl
not_wrong (Some true) false e = let f : true ≡ false = e in absurd cc
not_wrong (Some false) true e = let f : true ≡ false = e in absurd cc
not_wrong (Some false) false e = refl

module _ (spec imp : Netlist) where
  -- whether an output is known and wrong
  abbrev differs_at : ℕ → Function
  differs_at j = λ x. differs_known (tern_of (tern imp x) (slice_index imp.outs j)) (wanted_bit spec x j)

  mismatch-table : (j : ℕ) → mismatch spec imp j ≡ table imp.inputs (differs_at j)
  mismatch-table j =
      let given = slice_index imp.outs j in
      let w = spec_bit spec (slice_index spec.outs j) in
      ap (λ t. sum_table (high imp given) t (low imp given) (table imp.inputs w)) (combined-table imp.inputs (λ a b c. not a) w w w)
      ∙ sum-table imp.inputs (known_one imp given) (λ x. not (w x)) (known_zero imp given) w

  mismatch_at : (j : ℕ) (x : List Bool) → IsVector imp x → truth_at (mismatch spec imp j) x ≡ differs_at j x
  mismatch_at j x e = ap (λ t. truth_at t x) (mismatch-table j) ∙ truth_at-table imp.inputs (differs_at j) x e

  least_known : (j : ℕ) (old p : List Bool) → length old ≡ imp.inputs → IsLeastPoint (mismatch spec imp j) true 0 old p → IsLeastVector imp (λ x. IsKnownWrong spec imp x j) p
  least_known j old p long least =
      let vector : IsVector imp p = least.begins.0 ∙ long in record {
        vector = vector;
        holds = known_wrong (tern_of (tern imp p) (slice_index imp.outs j)) (wanted_bit spec p j) (sym (mismatch_at j p vector) ∙ least.bit);
        least = λ y e holds. least.least y (e ∙ sym long, refl) (mismatch_at j y e ∙ wrong_known (tern_of (tern imp y) (slice_index imp.outs j)) (wanted_bit spec y j) holds.0 holds.1 holds.2);
      }

  may_be_right : (j : ℕ) → IsNowhereTrue imp.inputs (mismatch spec imp j) → (x : List Bool) → IsVector imp x → MayBeRight spec imp x j
  may_be_right j none x e = not_wrong (tern_of (tern imp x) (slice_index imp.outs j)) (wanted_bit spec x j) (not_true (differs_at j x) (λ is. none x e (mismatch_at j x e ∙ is)))

  table_at : (s : NodeStore) (refs : List Ref) (j : ℕ) → s.vars ≡ imp.inputs → RepresentAll s (mismatch spec imp) refs → j < length refs → IsNowhereTrue s.vars (truth_of s (ref_at refs j).0) → IsNowhereTrue imp.inputs (mismatch spec imp j)
  table_at s refs j e occur l none = subst₂ IsNowhereTrue e (occur j l).table none

  -- the first output of which there is a vector
  pub first_known : (s : NodeStore) (refs : List Ref) (old p found : List Bool) (j : ℕ) → s.vars ≡ imp.inputs → length refs ≡ length imp.outs → RepresentAll s (mismatch spec imp) refs → length old ≡ s.vars → j < length refs →
      IsLeastPoint (truth_of s (ref_at refs j).0) true 0 old p → ((i : ℕ) → i < j → IsNowhereTrue s.vars (truth_of s (ref_at refs i).0)) → found ≡ p → IsFirstFound imp (IsKnownWrong spec imp) (MayBeRight spec imp) found j
  first_known s refs old p found j e count occur long l least none is = record {
    there = omega (arith, l, count);
    at = subst (IsLeastVector imp (λ x. IsKnownWrong spec imp x j)) (sym is) (least_known j old p (long ∙ e) (subst (λ t. IsLeastPoint t true 0 old p) (occur j l).table least));
    earlier = λ i before y vector. may_be_right i (table_at s refs i e occur (omega (arith, before, l)) (none i before)) y vector;
  }

  pub none_known : (s : NodeStore) (refs : List Ref) → s.vars ≡ imp.inputs → length refs ≡ length imp.outs → RepresentAll s (mismatch spec imp) refs → ((i : ℕ) → i < length refs → IsNowhereTrue s.vars (truth_of s (ref_at refs i).0)) → MayBeRightEverywhere spec imp
  none_known s refs e count occur none x vector j there =
      let l : j < length refs = omega (arith, there, count) in
      may_be_right j (table_at s refs j e occur l (none j l)) x vector

-- what is left of a vector that was overwritten
pub written_whole : (p q : List Bool) (len : ℕ) → length p ≡ length q → len ≡ length q → take len (p ++ drop (length p) q) ≡ p
written_whole p q len e h = ap (take len) (ap (λ (r : List Bool). p ++ r) (drop_of_length-le q (omega (arith, e))) ∙ append-nil p) ∙ take_all len p (omega (arith, e, h))
