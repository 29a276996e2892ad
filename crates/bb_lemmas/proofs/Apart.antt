-- Lists in which nothing is twice.
use Rattle.std.proofs.Common.{◌++◌, ◌+◌, ◌∙◌, ◌∷◌, ◌≡◌, ◌≢◌, AllPairs, Contains, List, Some, [], ap, arith, get_or, length, length-append, refl, subst, suc, sym, zero, ℕ, ◌<◌, ◌≤◌, ◌⊎◌, map, inl, inr}
use Rattle.std.specs.Prelude.{remove, slice_get}
use Rattle.std.proofs.lemmas.Grind.{in_remove}
use Rattle.std.proofs.lemmas.List.{get_or-append-add, get_or_append_left, length-append, get_or_default, get_or-map, length-map}
use Rattle.std.proofs.lemmas.List.Edits.{length-remove}
use Rattle.std.proofs.lemmas.List.Elements.{Contains-get_or}
use Rattle.std.proofs.lemmas.List.Quantifiers.{all_pairs_push}
use Rattle.bb_lemmas.proofs.Places.{some_same, there_at}
use Rattle.bb_lemmas.proofs.Orders.{less_or_same}
use Rattle.bb_bits.specs.Closures.{IsDistinct}

-- so it is at one place
pub one_place : {A : Type 0} (xs : List A) → IsDistinct xs → (j k : ℕ) (x : A) → slice_get xs j ≡ Some x → slice_get xs k ≡ Some x → j ≡ k
one_place [] distinct j k x e f = cc
one_place (y ∷ ys) distinct zero zero x e f = refl
one_place (y ∷ ys) distinct zero (suc k) x e f = absurd (distinct.0 (subst (Contains ys) (sym (some_same y x e)) (there_at ys k x f)))
one_place (y ∷ ys) distinct (suc j) zero x e f = absurd (distinct.0 (subst (Contains ys) (sym (some_same y x f)) (there_at ys j x e)))
one_place (y ∷ ys) distinct (suc j) (suc k) x e f = ap suc (one_place ys distinct.1 j k x e f)

module _ {A : Type 0} where
  pub apart_right : (xs ys : List A) → AllPairs ◌≢◌ (xs ++ ys) → AllPairs ◌≢◌ ys
  apart_right xs ys apart i j e less within same =
      apart (length xs + i) (length xs + j) e (omega (arith, less)) (omega (arith, within, length-append xs ys)) (get_or-append-add xs ys i e ∙ same ∙ sym (get_or-append-add xs ys j e))

-- lists without repetition
pub apart_append : {A : Type 0} (xs ys : List A) (z : A) → AllPairs ◌≢◌ (xs ++ ys) → Contains xs z → Contains ys z → ⊥
apart_append xs ys z apart a b =
    let long = length-append xs ys in
    apart a.0 (length xs + b.0) z (omega (arith, a.1)) (omega (arith, b.1, long))
    (get_or_append_left xs ys z a.0 a.1 ∙ a.2 ∙ sym (get_or-append-add xs ys b.0 z ∙ b.2))

-- a name that differs from all of a list may follow them
pub push_name : (names : List (List ℕ)) (n : List ℕ) → AllPairs ◌≢◌ names → ((k : List ℕ) → Contains names k → k ≢ n) → AllPairs ◌≢◌ (names ++ n ∷ [])
push_name names n apart other = all_pairs_push ◌≢◌ names n apart (λ k d lt. other (get_or names k d) (Contains-get_or names k d lt))

pub pairs_tail : {A : Type 0} (R : A → A → Type 0) (x : A) (xs : List A) → AllPairs R (x ∷ xs) → AllPairs R xs
pairs_tail R x xs all i j d lt within = all (suc i) (suc j) d (omega (arith, lt)) (omega (arith, within))

-- elements that differ and all are in a second list are at most as many as that has
pub at_most_as_many : {A : Type 0} (xs ys : List A) → AllPairs ◌≢◌ xs → ((x : A) → Contains xs x → Contains ys x) → length xs ≤ length ys
at_most_as_many [] ys apart among = omega arith
at_most_as_many (x ∷ xs) ys apart among =
    let here = among x (0, omega arith, refl) in
    let rest : length xs ≤ length (remove ys here.0) =
    at_most_as_many xs (remove ys here.0) (pairs_tail ◌≢◌ x xs apart) (λ s has.
    let there = among s (suc has.0, omega (arith, has.1), has.2) in
    let other : there.0 ≢ here.0 = λ same. apart 0 (suc has.0) x (omega arith) (omega (arith, has.1))
    (sym here.2 ∙ (get_or_default ys here.0 x s here.1 ∙ (ap (λ k. get_or ys k s) (sym same) ∙ (there.2 ∙ (sym has.2 ∙ get_or_default xs has.0 s x has.1))))) in
    (in_remove ys here.0 there.0 s here.1 there.1 (sym there.2) other).1) in
    omega (arith, rest, length-remove ys here.0 here.1)

-- where nothing is twice among what is seen of the elements, elements of which the same is seen are one
pub one_by : {A B : Type 0} (f : A → B) (xs : List A) → AllPairs ◌≢◌ (map f xs) → (y z : A) → Contains xs y → Contains xs z → f y ≡ f z → y ≡ z
one_by {A = A} f xs apart y z a b e = by (less_or_same a.0 b.0)
  where
    seen : (k : ℕ) (x : A) → (lt : k < length xs) → get_or xs k x ≡ x → get_or (map f xs) k (f y) ≡ f x
    seen k x lt at = get_or-map f xs k x (f y) lt ∙ ap f at

    within : (k : ℕ) → k < length xs → k < length (map f xs)
    within k lt = omega (arith, lt, length-map xs f)

    by : (a.0 < b.0) ⊎ ((b.0 < a.0) ⊎ (a.0 ≡ b.0)) → y ≡ z
    by (inl lt) = absurd (apart a.0 b.0 (f y) lt (within b.0 b.1) (seen a.0 y a.1 a.2 ∙ e ∙ sym (seen b.0 z b.1 b.2)))
    by (inr (inl lt)) = absurd (apart b.0 a.0 (f y) lt (within a.0 a.1) (seen b.0 z b.1 b.2 ∙ sym e ∙ sym (seen a.0 y a.1 a.2)))
    by (inr (inr same)) = sym a.2 ∙ get_or_default xs a.0 y z a.1 ∙ ap (λ k. get_or xs k z) same ∙ b.2
