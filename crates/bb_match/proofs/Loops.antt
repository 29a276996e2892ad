-- What a loop over a list finds: the first element of which something holds, or the opposite of all.
use Rattle.std.proofs.Common.{◌≡◌, ℕ, zero, suc, ◌+◌, ◌<◌, List, [], ◌∷◌, ◌++◌, take, drop, length, get_or, All, sym, ap, ◌∙◌, arith}
use Rattle.std.proofs.lemmas.List.{take_more}
use Rattle.std.proofs.lemmas.List.Elements.{All-contains, All-push}
use Rattle.bb_bits.specs.Closures.{IsFirst}

pub split_at : {A : Type 0} (xs : List A) (i : ℕ) (x : A) → i < length xs → x ≡ get_or xs i x → xs ≡ take i xs ++ x ∷ drop (suc i) xs
split_at (y ∷ ys) zero x lt at = ap (λ z. z ∷ ys) (sym at)
split_at (y ∷ ys) (suc i) x lt at = ap (λ l. y ∷ l) (split_at ys i x (omega (arith, lt)) at)
split_at [] i x lt at = absurd (omega (arith, lt))

pub first_at : {A : Type 0} (P Q : A → Type 0) → ((x : A) → P x → Q x → ⊥) → (xs : List A) (i : ℕ) (x : A) → i < length xs → x ≡ get_or xs i x → All Q (take i xs) → P x → IsFirst P xs x
first_at P Q clash xs i x lt at before holds = record {
  before = take i xs;
  after = drop (suc i) xs;
  occurs = split_at xs i x lt at;
  holds = holds;
  earlier = λ y has p. clash y p (All-contains Q (take i xs) y before has);
}

pub all_more : {A : Type 0} (P : A → Type 0) (xs : List A) (i : ℕ) (x : A) → i < length xs → x ≡ get_or xs i x → All P (take i xs) → P x → All P (take (i + 1) xs)
all_more P xs i x within at all p = rw (take_more xs i x within ∙ ap (λ y. take i xs ++ y ∷ []) (sym at)) (All-push P (take i xs) x all p)
