-- vectors that are put into a set one by one
use Rattle.std.proofs.Common.{if◌then◌else◌, length-append, ◌≡◌, ◌≢◌, ◌+◌, ◌<◌, ℕ, Bool, true, false, List, [], ◌∷◌, ◌++◌, ◌≤◌, ◌-◌, length, map, take, drop, All, AllPairs, get_or, refl, sym, ap, ◌∙◌, subst, true≢false, inl, inr, arith, get_or-take, get_or-drop, length-drop}
use Rattle.std.specs.List.{AllByRecursion, IsDistinct, list_any}
use Rattle.std.specs.Cmp.Lexicographic.{pointwise}
use Rattle.std.proofs.lemmas.Bool.{cases_eq}
use Rattle.std.proofs.lemmas.List.{get_or-map, length-map, length-take-le, map-append}
use Rattle.std.proofs.lemmas.List.Elements.{All-nil, All-cons, All-append}
use Rattle.std.proofs.lemmas.List.Kept.{AllPairs-cons}
use Rattle.std.proofs.lemmas.Map.Keys.{IsDistinct-head, IsDistinct-tail}
use Rattle.indexmap.specs.IndexSet.{insert_key}
use mathlib.Core.Bool.{beq}

same_bits : (xs : List Bool) → pointwise beq xs xs ≡ true
same_bits [] = refl
same_bits (true ∷ xs) = same_bits xs
same_bits (false ∷ xs) = same_bits xs

pub up_to : (P : ℕ → Type 0) {n : ℕ} → ((k : ℕ) → k < n → P k) → P n → (k : ℕ) → k < n + 1 → P k
up_to P {n} before last k l = elim (cases_eq k n) [
  | inl e ↦ subst P (sym e) last
  | inr ne ↦ before k (omega (arith, l, ne))
]

module _ {X : Type 0} (view : X → List Bool) where
  pub lengths_of : (n : ℕ) (xs : List X) → All (λ x. length x ≡ n) (map view xs) → All (λ x. length (view x) ≡ n) xs
  lengths_of n xs all k d l = ap length (sym (get_or-map view xs k d (view d) l)) ∙ all k (view d) (omega (arith, l, length-map xs view))

  an : (xs : List X) → 0 < length xs → X
  an [] l = absurd (omega (arith, l))
  an (x ∷ xs) l = x

  -- what holds of a part holds at its places
  pub in_part : (P : List Bool → Type 0) (all : List X) (start n j : ℕ) → start + n ≤ length all → All P (map view (take n (drop start all))) → start ≤ j → j < start + n → P (get_or (map view all) j [])
  in_part P all start n j within holds low high =
      let x = an all (omega (arith, within, low, high)) in
      let k : ℕ = j - start in
      let size : length (take n (drop start all)) ≡ n = length-take-le n (drop start all) (omega (arith, length-drop start all, within)) in
      let inside : k < length (take n (drop start all)) = omega (arith, size, low, high) in
      let there : start + k ≡ j = omega (arith, low) in
      subst P
      (get_or-map view (take n (drop start all)) k x [] inside
      ∙ (ap view (get_or-take n (drop start all) k x (omega (arith, low, high)) ∙ (get_or-drop start all k x ∙ ap (λ i. get_or all i x) there))
      ∙ sym (get_or-map view all j x [] (omega (arith, within, high)))))
      (holds k [] (omega (arith, inside, length-map (take n (drop start all)) view)))

  -- one more is taken
  module _ (old new : List X) (x : X) (pushed : new ≡ old ++ x ∷ []) where
    views : map view new ≡ map view old ++ view x ∷ []
    views = ap (map view) pushed ∙ map-append view old (x ∷ [])

    pub all_taken : (P : List Bool → Type 0) → All P (map view old) → P (view x) → All P (map view new)
    all_taken P all here = subst (All P) (sym views) (All-append P (map view old) (view x ∷ []) all (All-cons P (view x) [] here (All-nil P)))

  same : (x y : X) → view x ≡ view y → pointwise beq (view x) (view y) ≡ true
  same x y e = subst (λ ys. pointwise beq (view x) ys ≡ true) e (same_bits (view x))

  others : (x : X) (xs : List X) → AllByRecursion (λ y. pointwise beq (view x) (view y) ≡ false) xs → All (λ v. view x ≢ v) (map view xs)
  others x [] h = All-nil (λ v. view x ≢ v)
  others x (y ∷ ys) h = All-cons (λ v. view x ≢ v) (view y) (map view ys) (λ e. true≢false (sym (same x y e) ∙ h.0)) (others x ys h.1)

  -- no two keys of a set are one vector
  pub apart : (xs : List X) → IsDistinct (λ x y. pointwise beq (view x) (view y)) xs → AllPairs ◌≢◌ (map view xs)
  apart [] h = λ i j d lt within. absurd (omega (arith, within))
  apart (x ∷ xs) h = AllPairs-cons ◌≢◌ (view x) (map view xs) (others x xs (IsDistinct-head (λ x y. pointwise beq (view x) (view y)) x xs h)) (apart xs (IsDistinct-tail (λ x y. pointwise beq (view x) (view y)) x xs h))

-- one more is put into a set
module _ {X : Type 0} (view : X → List Bool) (eq : X → X → Bool) (old new : List X) (x : X) (inserted : new ≡ insert_key eq old x) where
  kept : list_any (eq x) old ≡ true → new ≡ old
  kept e = inserted ∙ ap (λ c. if c then old else old ++ x ∷ []) e

  taken : list_any (eq x) old ≡ false → new ≡ old ++ x ∷ []
  taken e = inserted ∙ ap (λ c. if c then old else old ++ x ∷ []) e

  pub all_inserted : (P : List Bool → Type 0) → All P (map view old) → P (view x) → All P (map view new)
  all_inserted P all here = by (list_any (eq x) old) refl
    where
      by : (b : Bool) → list_any (eq x) old ≡ b → All P (map view new)
      by true e = subst (λ xs. All P (map view xs)) (sym (kept e)) all
      by false e = all_taken view old new x (taken e) P all here

  pub few_inserted : length new ≤ length old + 1
  few_inserted = by (list_any (eq x) old) refl
    where
      by : (b : Bool) → list_any (eq x) old ≡ b → length new ≤ length old + 1
      by true e = omega (arith, ap length (kept e))
      by false e = omega (arith, ap length (taken e), length-append old (x ∷ []))

  pub some_inserted : new ≢ []
  some_inserted none = by (list_any (eq x) old) refl
    where
      by : (b : Bool) → list_any (eq x) old ≡ b → ⊥
      by true e = true≢false (sym e ∙ ap (list_any (eq x)) (sym (kept e) ∙ none))
      by false e = absurd (omega (arith, ap length none, ap length (taken e), length-append old (x ∷ [])))
