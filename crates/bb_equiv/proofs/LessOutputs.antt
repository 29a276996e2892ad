-- A list without one of its places: what is in it, and where that was.
use Rattle.std.proofs.Common.{◌≡◌, ◌≢◌, ◌∙◌, ℕ, zero, suc, List, [], ◌∷◌, ◌++◌, map, take, drop, get_or, refl, sym, ap, ap₂, arith}
use Rattle.std.specs.Prelude.{slice_get}
use Rattle.std.proofs.lemmas.List.{drop-map, map-append, take-map}
use Rattle.bb_match.specs.Pairing.{without}

-- where it was
abbrev pub old_place : ℕ → ℕ → ℕ
old_place zero j = suc j
old_place (suc k) zero = zero
old_place (suc k) (suc j) = suc (old_place k j)

-- which was everywhere but at the place
pub old_off : (k j : ℕ) → old_place k j ≢ k
old_off zero j e = omega (arith, e)
old_off (suc k) zero e = omega (arith, e)
old_off (suc k) (suc j) e = old_off k j (omega (arith, e))

pub place_of : (k i : ℕ) → i ≢ k → (j : ℕ) × (old_place k j ≡ i)
place_of zero zero off = absurd (off refl)
place_of zero (suc i) off = (i, refl)
place_of (suc k) zero off = (0, refl)
place_of (suc k) (suc i) off = let j = place_of k i (λ e. off (ap suc e)) in (suc j.0, ap suc j.1)

module _ {A : Type 0} where
  abbrev nothing : List A
  nothing = []

  pub got_without : (k : ℕ) (xs : List A) (j : ℕ) → slice_get (without k xs) j ≡ slice_get xs (old_place k j)
  got_without zero [] j = refl
  got_without (suc k) [] j = none j (old_place (suc k) j)
    where
      none : (a b : ℕ) → slice_get nothing a ≡ slice_get nothing b
      none zero zero = refl
      none zero (suc b) = refl
      none (suc a) zero = refl
      none (suc a) (suc b) = refl
  got_without zero (x ∷ xs) j = refl
  got_without (suc k) (x ∷ xs) zero = refl
  got_without (suc k) (x ∷ xs) (suc j) = got_without k xs j

  pub get_without : (k : ℕ) (xs : List A) (j : ℕ) (d : A) → get_or (without k xs) j d ≡ get_or xs (old_place k j) d
  get_without zero [] j d = refl
  get_without (suc k) [] j d = none j (old_place (suc k) j)
    where
      none : (a b : ℕ) → get_or [] a d ≡ get_or [] b d
      none zero zero = refl
      none zero (suc b) = refl
      none (suc a) zero = refl
      none (suc a) (suc b) = refl
  get_without zero (x ∷ xs) j d = refl
  get_without (suc k) (x ∷ xs) zero d = refl
  get_without (suc k) (x ∷ xs) (suc j) d = get_without k xs j d

pub without-map : {A B : Type 0} (f : A → B) (k : ℕ) (xs : List A) → map f (without k xs) ≡ without k (map f xs)
without-map f k xs = map-append f (take k xs) (drop (suc k) xs) ∙ ap₂ ◌++◌ (sym (take-map f k xs)) (sym (drop-map f (suc k) xs))
