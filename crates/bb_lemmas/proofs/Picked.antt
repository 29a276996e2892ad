-- What is picked from a list fixes the places where nothing is twice in it.
use Rattle.std.proofs.Common.{◌≡◌, ◌≢◌, ◌∷◌, ◌∙◌, ℕ, zero, suc, List, [], map, AllPairs, refl, sym, ap₂, inl, inr, arith}
use Rattle.std.specs.Prelude.{slice_get, Some}
use Rattle.std.proofs.lemmas.Option.{get_or_from_slice_get, slice_get_within}
use Rattle.bb_lemmas.proofs.Orders.{less_or_same}

-- where nothing is twice, what is somewhere is at one place
pub one_place : {A : Type 0} (xs : List A) (i j : ℕ) (x : A) → AllPairs ◌≢◌ xs → slice_get xs i ≡ Some x → slice_get xs j ≡ Some x → i ≡ j
one_place xs i j x apart at_i at_j = elim (less_or_same i j) [
  | inl h ↦ absurd (apart i j x h (slice_get_within xs j x at_j) (get_or_from_slice_get xs i x x at_i ∙ sym (get_or_from_slice_get xs j x x at_j)))
  | inr more ↦ elim more [ inl h ↦ absurd (apart j i x h (slice_get_within xs i x at_i) (get_or_from_slice_get xs j x x at_j ∙ sym (get_or_from_slice_get xs i x x at_i))) | inr e ↦ e ]
]

abbrev pub Picks : {A : Type 0} → List A → List ℕ → List A → Type 0
Picks list places picked = map (slice_get list) places ≡ map Some picked

module _ {A : Type 0} (xs : List A) where
  head_pick : (p : ℕ) (ps : List ℕ) (u : A) (us : List A) → Picks xs (p ∷ ps) (u ∷ us) → slice_get xs p ≡ Some u
  head_pick p ps u us e = cc e

  tail_picks : (p : ℕ) (ps : List ℕ) (u : A) (us : List A) → Picks xs (p ∷ ps) (u ∷ us) → Picks xs ps us
  tail_picks p ps u us e = cc e

  pub same_places : (ps qs : List ℕ) (us : List A) → AllPairs ◌≢◌ xs → Picks xs ps us → Picks xs qs us → ps ≡ qs
  same_places [] [] us apart a b = refl
  same_places [] (q ∷ qs) us apart a b = cc (a, b)
  same_places (p ∷ ps) [] us apart a b = cc (a, b)
  same_places (p ∷ ps) (q ∷ qs) [] apart a b = cc a
  same_places (p ∷ ps) (q ∷ qs) (u ∷ us) apart a b =
      ap₂ (λ z l. z ∷ l) (one_place xs p q u apart (head_pick p ps u us a) (head_pick q qs u us b)) (same_places ps qs us apart (tail_picks p ps u us a) (tail_picks q qs u us b))

  pub picked_at : (ps : List ℕ) (us : List A) (j : ℕ) (u : A) → Picks xs ps us → slice_get us j ≡ Some u → (p : ℕ) × (slice_get ps j ≡ Some p) × (slice_get xs p ≡ Some u)
  picked_at [] [] j u a at = absurd (omega (arith, slice_get_within [] j u at))
  picked_at [] (v ∷ us) j u a at = cc a
  picked_at (p ∷ ps) [] j u a at = absurd (omega (arith, slice_get_within [] j u at))
  picked_at (p ∷ ps) (v ∷ us) zero u a at = (p, refl, head_pick p ps v us a ∙ at)
  picked_at (p ∷ ps) (v ∷ us) (suc j) u a at = picked_at ps us j u (tail_picks p ps v us a) at
