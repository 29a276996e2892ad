-- Where there is something for each element of a list, there is a list of such things.
use Rattle.std.proofs.Common.{◌≡◌, ℕ, zero, suc, List, [], ◌∷◌, get_or, Some, refl, subst}
use Rattle.std.specs.Prelude.{slice_get}
use Rattle.bb_lemmas.proofs.Places.{some_same}

pub choose : {A B : Type 0} (P : ℕ → A → B → Type 0) (xs : List A) → ((k : ℕ) (x : A) → slice_get xs k ≡ Some x → (y : B) × P k x y) → (ys : List B) × ((k : ℕ) (x : A) (d : B) → slice_get xs k ≡ Some x → P k x (get_or ys k d))
choose P [] each = ([], λ k x d e. cc e)
choose {A = A} {B = B} P (x ∷ xs) each =
    let here = each 0 x refl in
    let rest = choose (λ k. P (suc k)) xs (λ k y e. each (suc k) y e) in
    (here.0 ∷ rest.0, by here.0 rest.0 here.1 rest.1)
  where
    by : (y : B) (ys : List B) → P 0 x y → ((k : ℕ) (z : A) (d : B) → slice_get xs k ≡ Some z → P (suc k) z (get_or ys k d)) → (k : ℕ) (z : A) (d : B) → slice_get (x ∷ xs) k ≡ Some z → P k z (get_or (y ∷ ys) k d)
    by y ys first later zero z d e = subst (λ u. P 0 u y) (some_same x z e) first
    by y ys first later (suc k) z d e = later k z d e
