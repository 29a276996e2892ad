-- What a loop over a list finds: the first element of which something holds, or the opposite of all.
use Rattle.std.proofs.Common.{◌≡◌, ◌∙◌, ℕ, zero, suc, ◌+◌, ◌<◌, List, [], ◌∷◌, ◌++◌, take, drop, length, get_or, All, sym, ap, subst, arith}
use Rattle.std.specs.List.{range_with_len}
use Rattle.std.proofs.lemmas.List.{take_all, take_more}
use Rattle.std.proofs.lemmas.List.Elements.{All-contains, All-push}
use Rattle.std.proofs.lemmas.List.FromFn.{get_or-range_with_len, length-range_with_len}
use Rattle.bb_bits.specs.Closures.{IsFirst}

split_at : {A : Type 0} (xs : List A) (i : ℕ) (x : A) → i < length xs → x ≡ get_or xs i x → xs ≡ take i xs ++ x ∷ drop (suc i) xs
split_at (y ∷ ys) zero x lt at = ap (λ z. z ∷ ys) (sym at)
split_at (y ∷ ys) (suc i) x lt at = ap (λ l. y ∷ l) (split_at ys i x (omega (arith, lt)) at)
split_at [] i x lt at = absurd (omega (arith, lt))

pub first_at : {A : Type 0} (P Q : A → Type 0) → ((x : A) → P x → Q x → ⊥) → (xs : List A) (i : ℕ) (x : A) → i < length xs → x ≡ get_or xs i x → All Q (take i xs) → P x → IsFirst P xs x
first_at P Q clash xs i x lt at before holds = record {
  before = take i xs;
  after = drop (suc i) xs;
  occurs = split_at xs i x lt at;
  holds = holds;
  earlier = λ y has p. clash y p (All-contains Q (take i xs) y before has);
}

pub all_more : {A : Type 0} (P : A → Type 0) (xs : List A) (i : ℕ) (x : A) → i < length xs → x ≡ get_or xs i x → All P (take i xs) → P x → All P (take (i + 1) xs)
all_more P xs i x within at all p = rw (take_more xs i x within ∙ ap (λ y. take i xs ++ y ∷ []) (sym at)) (All-push P (take i xs) x all p)

-- the same of the numbers of a range

number_at : (n i : ℕ) → i < n → i ≡ get_or (range_with_len 0 n) i i
number_at n i within = let at : 0 + i ≡ i = omega arith in sym (get_or-range_with_len 0 n i i within ∙ at)

number_within : (n i : ℕ) → i < n → i < length (range_with_len 0 n)
number_within n i within = omega (arith, within, length-range_with_len 0 n)

pub first_number : (P Q : ℕ → Type 0) → ((k : ℕ) → P k → Q k → ⊥) → (n i : ℕ) → i < n → All Q (take i (range_with_len 0 n)) → P i → IsFirst P (range_with_len 0 n) i
first_number P Q clash n i within before holds = first_at P Q clash (range_with_len 0 n) i i (number_within n i within) (number_at n i within) before holds

pub all_numbers_more : (P : ℕ → Type 0) (n i : ℕ) → i < n → All P (take i (range_with_len 0 n)) → P i → All P (take (i + 1) (range_with_len 0 n))
all_numbers_more P n i within all p = all_more P (range_with_len 0 n) i i (number_within n i within) (number_at n i within) all p

pub all_numbers : (P : ℕ → Type 0) (n i : ℕ) → i ≡ n → All P (take i (range_with_len 0 n)) → All P (range_with_len 0 n)
all_numbers P n i last all = subst (All P) (take_all i (range_with_len 0 n) (omega (arith, last, length-range_with_len 0 n))) all
