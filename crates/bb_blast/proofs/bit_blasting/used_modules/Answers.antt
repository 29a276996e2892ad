use Rattle.std.proofs.Common.{◌≡◌, ◌≢◌, ◌⊎◌, ◌<◌, ◌+◌, ℕ, zero, suc, Bool, true, false, List, [], ◌∷◌, Some, length, replicate, get_or, refl, sym, ap, ◌∙◌, subst, inl, inr, arith}
use Rattle.std.specs.Prelude.{slice_get}
use Rattle.std.proofs.Math.ListN.{set}
use Rattle.std.proofs.lemmas.Option.{slice_get_read, slice_get_within, same_Some}
use Rattle.std.proofs.lemmas.List.{length-replicate, length-set}
use Rattle.bb_blast.specs.declared.placed.Placed.{Placed}
use Rattle.bb_lemmas.proofs.Orders.{less_or_same}
use Rattle.bb_blast.proofs.bit_blasting.used_modules.Goals as goal

none_there : (n m : ℕ) → slice_get (replicate n false) m ≡ Some true → ⊥
none_there zero m e = grind (arith, e)
none_there (suc n) zero e = grind (arith, e)
none_there (suc n) (suc m) e = none_there n m e

set_here : {A : Type 0} (xs : List A) (i : ℕ) (y : A) → i < length xs → slice_get (set xs i y) i ≡ Some y
set_here [] i y lt = absurd (omega (arith, lt))
set_here (x ∷ xs) zero y lt = refl
set_here (x ∷ xs) (suc i) y lt = set_here xs i y (omega (arith, lt))

set_other : {A : Type 0} (xs : List A) (i j : ℕ) (y : A) → j ≢ i → slice_get (set xs i y) j ≡ slice_get xs j
set_other [] i j y other = refl
set_other (x ∷ xs) zero zero y other = absurd (other refl)
set_other (x ∷ xs) zero (suc j) y other = refl
set_other (x ∷ xs) (suc i) zero y other = refl
set_other (x ∷ xs) (suc i) (suc j) y other = set_other xs i j y (λ e. other (ap suc e))

same_or_not : (m n : ℕ) → (m ≡ n) ⊎ (m ≢ n)
same_or_not m n = by (less_or_same m n)
  where
    by : (m < n) ⊎ ((n < m) ⊎ (m ≡ n)) → (m ≡ n) ⊎ (m ≢ n)
    by (inl h) = inr (λ e. omega (arith, h, e))
    by (inr (inl h)) = inr (λ e. omega (arith, h, e))
    by (inr (inr e)) = inl e

module _ (all : List Placed) (used : List Bool) (k : ℕ) (x : Placed) (there : slice_get all k ≡ Some x) (lt : x.module < length used) where
  next_only : ((m : ℕ) → slice_get used m ≡ Some true → (j : ℕ) × (p : Placed) × (slice_get all j ≡ Some p) × (p.module ≡ m)) → (m : ℕ) → slice_get (set used x.module true) m ≡ Some true
      → (j : ℕ) × (p : Placed) × (slice_get all j ≡ Some p) × (p.module ≡ m)
  next_only only m e = by (same_or_not m x.module)
    where
      by : (m ≡ x.module) ⊎ (m ≢ x.module) → (j : ℕ) × (p : Placed) × (slice_get all j ≡ Some p) × (p.module ≡ m)
      by (inl is) = (k, x, there, sym is)
      by (inr other) = only m (sym (set_other used x.module m true other) ∙ e)

  next_each : ((j : ℕ) (p : Placed) → j < k → slice_get all j ≡ Some p → slice_get used p.module ≡ Some true) → (j : ℕ) (p : Placed) → j < k + 1 → slice_get all j ≡ Some p → slice_get (set used x.module true) p.module ≡ Some true
  next_each each j p less e = by (same_or_not p.module x.module) (less_or_same j k)
    where
      by : (p.module ≡ x.module) ⊎ (p.module ≢ x.module) → (j < k) ⊎ ((k < j) ⊎ (j ≡ k)) → slice_get (set used x.module true) p.module ≡ Some true
      by (inl is) order = ap (slice_get (set used x.module true)) is ∙ set_here used x.module true lt
      by (inr other) (inl h) = set_other used x.module p.module true other ∙ each j p h e
      by (inr other) (inr (inl h)) = absurd (omega (arith, h, less))
      by (inr other) (inr (inr same)) = absurd (other (ap (λ (q : Placed). q.module) (same_Some p x (sym e ∙ ap (slice_get all) same ∙ there))))

pub loop-k-init : goal.loop-k-init
loop-k-init c = record {
  long = ap length (c.in_ok-used.ensures.items_if_clones_equal (λ y same. same)) ∙ length-replicate c.args.count false;
  only = λ m e. absurd (none_there c.args.count m (ap (λ l. slice_get l m) (sym (c.in_ok-used.ensures.items_if_clones_equal (λ y same. same))) ∙ e));
  each = λ j p lt e. absurd (omega (arith, lt));
}

pub loop-k-preserved : goal.loop-k-preserved
loop-k-preserved c =
    let x = c.index-placed-k.result in
    let there = slice_get_read c.args.placed.now (length c.args.placed.now) c.loop-k.k x refl c.loop-k-test.true c.index-placed-k.is in
    let lt : x.module < length c.loop-k.used.items = omega (arith, c.requires.there c.loop-k.k x c.loop-k-test.true, ap (λ (p : Placed). p.module) c.index-placed-k.is, c.loop-k.invariant.long) in
    let at : (get_or c.args.placed.now c.loop-k.k x).module ≡ x.module = ap (λ (p : Placed). p.module) (sym c.index-placed-k.is) in
    record {
      long = length-set c.loop-k.used.items _ true ∙ c.loop-k.invariant.long;
      only = λ m e. next_only c.args.placed.now c.loop-k.used.items c.loop-k.k x there lt c.loop-k.invariant.only m (ap (λ i. slice_get (set c.loop-k.used.items i true) m) (sym at) ∙ e);
      each = λ j p less e. ap (λ i. slice_get (set c.loop-k.used.items i true) p.module) at ∙ next_each c.args.placed.now c.loop-k.used.items c.loop-k.k x there lt c.loop-k.invariant.each j p less e;
    }

pub returns : goal.returns
returns c = record {
  used = record { only = c.loop-k.invariant.only; each = λ k p e. c.loop-k.invariant.each k p (omega (arith, slice_get_within c.args.placed.now k p e, c.loop-k-test.false)) e };
  long = c.loop-k.invariant.long;
}
