-- lists that are gone through in slices
use Rattle.std.proofs.Common.{◌≡◌, ℕ, ◌+◌, ◌-◌, ◌<◌, ◌≤◌, List, All, inl, inr, length, map, take, drop, get_or, get_or-take, get_or-drop, length-drop, sym, ap, ◌∙◌, subst, arith}
use Rattle.std.proofs.lemmas.Bool.{cases_eq}
use Rattle.std.proofs.lemmas.List.{length-map, length-take-le, take-map, drop-map}

-- what holds of all elements of a slice, seen so, holds at its places
pub in_slice : {A B : Type 0} (view : A → B) (P : B → Type 0) (xs : List A) (start n j : ℕ) (none : B) → start + n ≤ length xs → All P (map view (take n (drop start xs))) → start ≤ j → j < start + n → P (get_or (map view xs) j none)
in_slice view P xs start n j none within holds low high =
    let k : ℕ = j - start in
    let seen : map view (take n (drop start xs)) ≡ take n (drop start (map view xs)) = sym (take-map view n (drop start xs)) ∙ ap (take n) (sym (drop-map view start xs)) in
    let size : length (map view (take n (drop start xs))) ≡ n = length-map (take n (drop start xs)) view ∙ length-take-le n (drop start xs) (omega (arith, length-drop start xs, within)) in
    let there : start + k ≡ j = omega (arith, low) in
    subst P
    (ap (λ ys. get_or ys k none) seen ∙ (get_or-take n (drop start (map view xs)) k none (omega (arith, low, high)) ∙ (get_or-drop start (map view xs) k none ∙ ap (λ i. get_or (map view xs) i none) there)))
    (holds k none (omega (arith, size, low, high)))

-- what holds at all places so far and at the next one
pub up_to : (P : ℕ → Type 0) {n : ℕ} → ((k : ℕ) → k < n → P k) → P n → (k : ℕ) → k < n + 1 → P k
up_to P {n} before last k l = elim (cases_eq k n) [
  | inl e ↦ subst P (sym e) last
  | inr ne ↦ before k (omega (arith, l, ne))
]
