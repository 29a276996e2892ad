-- What holds of the elements of lists one after another, and lists without repetition that are made from others.
use Rattle.std.proofs.Common.{◌≡◌, ◌≢◌, ◌∙◌, ◌⊎◌, inl, inr, ℕ, zero, suc, ◌+◌, ◌-◌, ◌<◌, List, [], ◌∷◌, ◌++◌, length, map, reverse, refl, sym, subst, arith}
use Rattle.std.specs.Prelude.{All, AllPairs, Contains}
use Rattle.std.specs.List.{flat_map, range_with_len}
use Rattle.std.proofs.lemmas.List.{get_or-reverse, length-reverse}
use Rattle.std.proofs.lemmas.List.Elements.{All-cons, All-contains, All-nil, Contains-append_cases, Contains-append_left, Contains-append_right, Contains-get_or}
use Rattle.std.proofs.lemmas.List.Kept.{AllPairs-cons}
use Rattle.bb_lemmas.proofs.Apart.{pairs_tail}
use Rattle.bb_lemmas.proofs.Members.{all_from, contains_here, contains_there, from_flat, from_map}
use Rattle.bb_lemmas.proofs.Ranges.{from_range}

pub all_left : {A : Type 0} (P : A → Type 0) (xs ys : List A) → All P (xs ++ ys) → All P xs
all_left P xs ys all = all_from P xs (λ x has. All-contains P (xs ++ ys) x all (Contains-append_left xs ys x has))

pub all_right : {A : Type 0} (P : A → Type 0) (xs ys : List A) → All P (xs ++ ys) → All P ys
all_right P xs ys all = all_from P ys (λ x has. All-contains P (xs ++ ys) x all (Contains-append_right xs ys x has))

pub all_two : {A : Type 0} (P : A → Type 0) (x y : A) → P x → P y → All P (x ∷ y ∷ [])
all_two P x y p q = All-cons P x (y ∷ []) p (All-cons P y [] q (All-nil P))

pub all_three : {A : Type 0} (P : A → Type 0) (x y z : A) → P x → P y → P z → All P (x ∷ y ∷ z ∷ [])
all_three P x y z p q r = All-cons P x (y ∷ z ∷ []) p (all_two P y z q r)

pub all_reverse : {A : Type 0} (P : A → Type 0) (xs : List A) → All P xs → All P (reverse xs)
all_reverse P xs all k d within =
    let long = length-reverse xs in
    subst P (sym (get_or-reverse xs k d (omega (arith, within, long)))) (all (length xs - 1 - k) d (omega (arith, within, long)))

-- the first of a list without repetition is nowhere else in it
pub first_apart : {A : Type 0} (x : A) (xs : List A) → AllPairs ◌≢◌ (x ∷ xs) → (y : A) → Contains xs y → x ≢ y
first_apart x xs apart y has = λ same. apart 0 (suc has.0) y (omega arith) (omega (arith, has.1)) (same ∙ sym has.2)

pub apart_cons : {A : Type 0} (x : A) (xs : List A) → (Contains xs x → ⊥) → AllPairs ◌≢◌ xs → AllPairs ◌≢◌ (x ∷ xs)
apart_cons x xs other apart = AllPairs-cons ◌≢◌ x xs (λ k d lt same. other (subst (Contains xs) (sym same) (Contains-get_or xs k d lt))) apart

-- two lists without repetition that have nothing in common
pub apart_both : {A : Type 0} (xs ys : List A) → AllPairs ◌≢◌ xs → AllPairs ◌≢◌ ys → ((z : A) → Contains xs z → Contains ys z → ⊥) → AllPairs ◌≢◌ (xs ++ ys)
apart_both [] ys a b cross = b
apart_both (x ∷ xs) ys a b cross =
    apart_cons x (xs ++ ys) (λ has. by (Contains-append_cases xs ys x has)) (apart_both xs ys (pairs_tail ◌≢◌ x xs a) b (λ z l r. cross z (contains_there x xs z l) r))
  where
    by : Contains xs x ⊎ Contains ys x → ⊥
    by (inl left) = first_apart x xs a x left refl
    by (inr right) = cross x (contains_here x xs) right

pub apart_map : {A B : Type 0} (f : A → B) → ((a b : A) → f a ≡ f b → a ≡ b) → (xs : List A) → AllPairs ◌≢◌ xs → AllPairs ◌≢◌ (map f xs)
apart_map f one [] a = λ i j d lt within. absurd (omega (arith, within))
apart_map f one (x ∷ xs) a =
    apart_cons (f x) (map f xs) (λ has. let at = from_map f xs (f x) has in first_apart x xs a at.0 at.1 (sym (one at.0 x at.2))) (apart_map f one xs (pairs_tail ◌≢◌ x xs a))

-- the lists of some numbers, of which none repeats and no two have anything in common
pub apart_numbers : {A : Type 0} (g : ℕ → List A) (a n : ℕ) → ((k : ℕ) → k < a + n → AllPairs ◌≢◌ (g k)) → ((i j : ℕ) (z : A) → i < j → j < a + n → Contains (g i) z → Contains (g j) z → ⊥)
    → AllPairs ◌≢◌ (flat_map g (range_with_len a n))
apart_numbers g a zero each cross = λ i j d lt within. absurd (omega (arith, within))
apart_numbers g a (suc n) each cross =
    apart_both (g a) (flat_map g (range_with_len (a + 1) n)) (each a (omega arith))
    (apart_numbers g (a + 1) n (λ k lt. each k (omega (arith, lt))) (λ i j z less lt. cross i j z less (omega (arith, lt))))
    (λ z here there. let at = from_flat g (range_with_len (a + 1) n) z there in let within = from_range (a + 1) n at.0 at.1 in cross a at.0 z (omega (arith, within.0)) (omega (arith, within.1)) here at.2)
