-- What a step is made of stays the same while steps are added after it, and what rows of steps add that read earlier ones alone.
use Rattle.std.proofs.Common.{◌≡◌, ℕ, zero, suc, ◌+◌, ◌<◌, ◌≤◌, false, List, ◌++◌, length, refl, sym, ap, ap₂, ◌∙◌, subst, arith, inl, inr, add-one, length-append}
use Rattle.std.specs.Prelude.{◌⊎◌, All}
use Rattle.std.proofs.lemmas.List.{get_or_append_left, get_or-append-add}
use Rattle.std.proofs.lemmas.List.Elements.{All-get_or}
use Rattle.bb_names.specs.declared.net.NetInfo.{NetInfo}
use Rattle.bb_expr.specs.declared.step.BitStep.{BitStep}
use Rattle.bb_expr.specs.declared.step.BitStep.TheVariants as steps
use Rattle.bb_expr.specs.Terms.{Term, Not, And, Or, Xor}
use Rattle.bb_expr.specs.Lowered.{step_term, term_within, term_at, ReadsEarlier}
use Rattle.bb_expr.specs.Inside.Growing.{step_at, AreOrdered}

-- a place precedes another, or so far after it
pub either-side : (k n : ℕ) → (k < n) ⊎ ((i : ℕ) × (k ≡ n + i))
either-side k zero = inr (k, omega arith)
either-side zero (suc n) = inl (omega arith)
either-side (suc k) (suc n) = elim (either-side k n) [
  | inl below ↦ inl (omega (arith, below))
  | inr above ↦ inr (above.0, omega (arith, above.1))
]

module _ (nets : List NetInfo) where
  -- what a step is made of depends on what it reads alone
  pub step_term-same : (v w : ℕ → Term) (place : ℕ) (s : BitStep) → ReadsEarlier nets place s → ((k : ℕ) → k < place → v k ≡ w k) → step_term nets s v ≡ step_term nets s w
  step_term-same v w place (steps.Const b) h same = refl
  step_term-same v w place (steps.Net k i) h same = refl
  step_term-same v w place (steps.Not a) h same = ap Not (same a h)
  step_term-same v w place (steps.And a b) h same = ap₂ And (same a h.0) (same b h.1)
  step_term-same v w place (steps.Or a b) h same = ap₂ Or (same a h.0) (same b h.1)
  step_term-same v w place (steps.Xor a b) h same = ap₂ Xor (same a h.0) (same b h.1)
  step_term-same v w place (steps.Mux c t e) h same = let p = same c h.0 in let q = same t h.1 in let r = same e h.2 in cc

  pub reads-later : (place later : ℕ) (s : BitStep) → place ≤ later → ReadsEarlier nets place s → ReadsEarlier nets later s
  reads-later place later (steps.Const b) le h = h
  reads-later place later (steps.Net k i) le h = h
  reads-later place later (steps.Not a) le h = omega (arith, h)
  reads-later place later (steps.And a b) le h = (omega (arith, h.0), omega (arith, h.1))
  reads-later place later (steps.Or a b) le h = (omega (arith, h.0), omega (arith, h.1))
  reads-later place later (steps.Xor a b) le h = (omega (arith, h.0), omega (arith, h.1))
  reads-later place later (steps.Mux c t e) le h = (omega (arith, h.0), omega (arith, h.1), omega (arith, h.2))

  -- more steps change nothing
  within-more : (all more : List BitStep) → AreOrdered nets all → (n k : ℕ) → k < length all → term_within nets (all ++ more) n k ≡ term_within nets all n k
  unfolding term_within
  within-more all more ordered zero k lt = refl
  within-more all more ordered (suc n) k lt =
      ap (λ s. step_term nets s (term_within nets (all ++ more) n)) (get_or_append_left all more (steps.Const false) k lt)
      ∙ step_term-same (term_within nets (all ++ more) n) (term_within nets all n) k (step_at all k) (ordered k lt) (λ j below. within-more all more ordered n j (omega (arith, below, lt)))

  pub term-more : (all more : List BitStep) → AreOrdered nets all → (k : ℕ) → k < length all → term_at nets (all ++ more) k ≡ term_at nets all k
  term-more all more ordered k lt = within-more all more ordered (k + 1) k lt

  -- neither does more room for operands
  within-steady : (all : List BitStep) → AreOrdered nets all → (n m k : ℕ) → k < n → k < m → k < length all → term_within nets all n k ≡ term_within nets all m k
  unfolding term_within
  within-steady all ordered zero m k a b lt = absurd (omega (arith, a))
  within-steady all ordered (suc n) zero k a b lt = absurd (omega (arith, b))
  within-steady all ordered (suc n) (suc m) k a b lt =
      step_term-same (term_within nets all n) (term_within nets all m) k (step_at all k) (ordered k lt) (λ j below. within-steady all ordered n m j (omega (arith, below, a)) (omega (arith, below, b)) (omega (arith, below, lt)))

  within-step : (all : List BitStep) (n k : ℕ) → term_within nets all (n + 1) k ≡ step_term nets (step_at all k) (term_within nets all n)
  unfolding term_within
  within-step all n k = rw add-one refl

  pub term-step : (all : List BitStep) → AreOrdered nets all → (k : ℕ) → k < length all → term_at nets all k ≡ step_term nets (step_at all k) (term_at nets all)
  term-step all ordered k lt =
      within-step all k k
      ∙ step_term-same (term_within nets all k) (term_at nets all) k (step_at all k) (ordered k lt) (λ j below. within-steady all ordered k (j + 1) j below (omega arith) (omega (arith, below, lt)))

  -- a row of steps that read those before the row alone
  module _ (old rows : List BitStep) (ordered : AreOrdered nets old) (reads : All (ReadsEarlier nets (length old)) rows) where
    pub row-at : (i : ℕ) → step_at (old ++ rows) (length old + i) ≡ step_at rows i
    row-at i = get_or-append-add old rows i (steps.Const false)

    pub ordered-rows : AreOrdered nets (old ++ rows)
    ordered-rows k lt = elim (either-side k (length old)) [
      | inl below ↦ subst (ReadsEarlier nets k) (sym (get_or_append_left old rows (steps.Const false) k below)) (ordered k below)
      | inr above ↦ subst (λ j. ReadsEarlier nets j (step_at (old ++ rows) j)) (sym above.1)
          (subst (ReadsEarlier nets (length old + above.0)) (sym (row-at above.0))
          (reads-later (length old) (length old + above.0) (step_at rows above.0) (omega arith)
          (All-get_or (ReadsEarlier nets (length old)) rows above.0 (steps.Const false) (omega (arith, lt, above.1, length-append old rows)) reads)))
    ]

    pub row-term : (i : ℕ) → i < length rows → term_at nets (old ++ rows) (length old + i) ≡ step_term nets (step_at rows i) (term_at nets old)
    row-term i lt =
        term-step (old ++ rows) ordered-rows (length old + i) (omega (arith, lt, length-append old rows))
        ∙ ap (λ s. step_term nets s (term_at nets (old ++ rows))) (row-at i)
        ∙ step_term-same (term_at nets (old ++ rows)) (term_at nets old) (length old) (step_at rows i) (All-get_or (ReadsEarlier nets (length old)) rows i (steps.Const false) lt reads)
        (λ j below. term-more old rows ordered j below)
