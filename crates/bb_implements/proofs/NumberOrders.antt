-- Different numbers below a bound, as many as it says, are all of them in some order.
use Rattle.std.proofs.Common.{◌≡◌, ◌≢◌, ◌⊎◌, ℕ, zero, suc, ◌+◌, ◌<◌, ◌==◌, false, List, [], ◌∷◌, ◌++◌, map, length, get_or, AllPairs, Contains, refl, sym, ap, ◌∙◌, subst, inl, inr, arith}
use Rattle.std.specs.Prelude.{IsPermutation}
use Rattle.std.specs.List.{AllByRecursion, IsDistinct, range_with_len, remove}
use Rattle.std.proofs.lemmas.Bool.{eqb-true}
use Rattle.std.proofs.lemmas.Bool.Decides.{Decides-eqb}
use Rattle.std.proofs.lemmas.List.Sorted.{IsPermutation-refl, IsPermutation-sym, IsPermutation-trans, IsPermutation-cons, IsPermutation-remove, IsPermutation-to_front, Contains-permutation}
use Rattle.std.proofs.lemmas.Map.Keys.{IsDistinct-IsPermutation}
use Rattle.std.proofs.lemmas.Map.Made.{IsDistinct-from_AllPairs}
use Rattle.std.proofs.lemmas.Map.Steps.{length-le_from_distinct_below}
use Rattle.std.proofs.lemmas.Map.Views.{Contains-from_any}
use Rattle.bb_lemmas.proofs.Deciding.{Decision, decide_number, decide_contains}
use Rattle.bb_lemmas.proofs.Members.{contains_cases, contains_there, each_of}
use Rattle.bb_implements.proofs.ListNumbers.{flips}

-- a number is reported from those of a list in which it is not
distinguished : (c : ℕ) (ys : List ℕ) → (Contains ys c → ⊥) → AllByRecursion (λ y. (c == y) ≡ false) ys
distinguished c [] none = tt
distinguished c (y ∷ ys) none = (differs (λ same. none (0, omega arith, sym same)), distinguished c ys (λ has. none (contains_there y ys c has)))
  where
    differs : (c ≡ y → ⊥) → (c == y) ≡ false
    differs off = grind (arith, off)

-- where as many different numbers are as there are, each one does
all_there : (xs : List ℕ) (n : ℕ) → IsDistinct ◌==◌ xs → ((q : ℕ) → Contains xs q → q < n) → length xs ≡ n → (c : ℕ) → c < n → Contains xs c
unfolding IsDistinct
all_there xs n distinct below long c lt = by (decide_contains decide_number xs c)
  where
    within : (q : ℕ) → Contains (c ∷ xs) q → q < n
    within q has = from (contains_cases c xs q has)
      where
        from : (c ≡ q) ⊎ Contains xs q → q < n
        from (inl same) = omega (arith, same, lt)
        from (inr there) = below q there

    by : Decision (Contains xs c) → Contains xs c
    by (inl has) = has
    by (inr none) =
        let most = length-le_from_distinct_below (c ∷ xs) n (distinguished c xs none, distinct) (λ q has. within q (Contains-from_any (λ a b e. eqb-true a b e) q (c ∷ xs) has)) in
        absurd (omega (arith, most, long))

range_last : (a n : ℕ) → range_with_len a (suc n) ≡ range_with_len a n ++ (a + n) ∷ []
range_last a zero = ap (λ k. k ∷ []) (omega arith)
range_last a (suc n) = ap (λ l. a ∷ l) (range_last (a + 1) n ∙ ap (λ k. range_with_len (a + 1) n ++ k ∷ []) (omega arith))

ordered : (n : ℕ) (xs : List ℕ) → IsDistinct ◌==◌ xs → ((q : ℕ) → Contains xs q → q < n) → ((q : ℕ) → q < n → Contains xs q) → IsPermutation xs (range_with_len 0 n)
unfolding IsDistinct
ordered zero [] distinct below all = IsPermutation-refl []
ordered zero (x ∷ xs) distinct below all = absurd (omega (arith, below x (0, omega arith, refl)))
ordered (suc n) xs distinct below all =
    let has = all n (omega arith) in
    let rest = remove xs has.0 in
    let moved = IsPermutation-remove xs has.0 n has.1 (sym has.2) in
    let apart = IsDistinct-IsPermutation ◌==◌ flips xs (n ∷ rest) moved distinct in
    let inside = ordered n rest apart.1 (λ q there. lower rest apart.0 q there (below q (Contains-permutation (n ∷ rest) xs q (IsPermutation-sym xs (n ∷ rest) moved) (contains_there n rest q there))))
    (λ q lt. kept rest q lt (contains_cases n rest q (Contains-permutation xs (n ∷ rest) q moved (all q (omega (arith, lt)))))) in
    let turned = IsPermutation-trans (n ∷ rest) (n ∷ range_with_len 0 n) (range_with_len 0 n ++ n ∷ []) (IsPermutation-cons n rest (range_with_len 0 n) inside)
    (IsPermutation-sym (range_with_len 0 n ++ n ∷ []) (n ∷ range_with_len 0 n) (IsPermutation-to_front (range_with_len 0 n) n)) in
    subst (IsPermutation xs) (sym (range_last 0 n ∙ ap (λ k. range_with_len 0 n ++ k ∷ []) (omega arith)))
    (IsPermutation-trans xs (n ∷ rest) (range_with_len 0 n ++ n ∷ []) moved turned)
  where
    lower : (rest : List ℕ) → AllByRecursion (λ y. (n == y) ≡ false) rest → (q : ℕ) → Contains rest q → q < suc n → q < n
    lower rest off q there lt = let differs : (n == q) ≡ false = each_of (λ y. (n == y) ≡ false) rest off q there in grind (arith, differs, lt)

    kept : (rest : List ℕ) (q : ℕ) → q < n → (n ≡ q) ⊎ Contains rest q → Contains rest q
    kept rest q lt (inl same) = absurd (omega (arith, same, lt))
    kept rest q lt (inr there) = there

pub numbers_ordered : (n : ℕ) (xs : List ℕ) → AllPairs ◌≢◌ xs → ((q : ℕ) → Contains xs q → q < n) → length xs ≡ n → IsPermutation xs (range_with_len 0 n)
numbers_ordered n xs apart below long =
    let distinct = IsDistinct-from_AllPairs Decides-eqb xs apart in
    ordered n xs distinct below (all_there xs n distinct below long)

-- the elements of a list, place by place
pub each_place : {A : Type 0} (xs : List A) (a : ℕ) (f : ℕ → A) (e : A) → ((i : ℕ) → i < length xs → f (a + i) ≡ get_or xs i e) → map f (range_with_len a (length xs)) ≡ xs
each_place [] a f e same = refl
each_place (x ∷ xs) a f e same =
    let head : f a ≡ x = ap f (omega arith) ∙ same 0 (omega arith) in
    let tail = each_place xs (a + 1) f e (λ i fits. ap f (omega arith) ∙ same (suc i) (omega (arith, fits))) in
    λ k. head k ∷ tail k
