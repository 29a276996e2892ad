-- What is at a place of a list, counted from 0, and in a list that is made from others.
use Rattle.std.proofs.Common.{◌++◌, ◌+◌, ◌<◌, ◌∙◌, ◌∷◌, ◌≡◌, Contains, Global, List, Some, Vec, [], ap, arith, drop, get_or, length, length-append, map, refl, subst, suc, sym, take, zero, ℕ}
use Rattle.std.specs.List.{flat_map, slice_index_or}
use Rattle.std.specs.Prelude.{slice_get, slice_set}
use Rattle.std.proofs.lemmas.List.{get_or-map}
use Rattle.bb_lemmas.proofs.Orders.{plus_one}

pub some_at : {A : Type 0} (xs : List A) (k : ℕ) → k < length xs → (x : A) × (slice_get xs k ≡ Some x)
some_at [] k lt = absurd (omega (arith, lt))
some_at (x ∷ xs) zero lt = (x, refl)
some_at (x ∷ xs) (suc k) lt = some_at xs k (omega (arith, lt))

-- a list is split at a place, and what precedes it
pub split : {A : Type 0} (xs : List A) (k : ℕ) (x : A) → slice_get xs k ≡ Some x → xs ≡ take k xs ++ x ∷ drop (suc k) xs
split [] k x e = cc
split (y ∷ ys) zero x e = let is : y ≡ x = grind (arith, e) in ap (λ z. z ∷ ys) is
split (y ∷ ys) (suc k) x e = ap (λ zs. y ∷ zs) (split ys k x e)

pub taken : {A : Type 0} (xs : List A) (k : ℕ) (y : A) → Contains (take k xs) y → (j : ℕ) × (j < k) × (slice_get xs j ≡ Some y)
taken xs zero y has = absurd (omega (arith, has.1))
taken [] (suc k) y has = absurd (omega (arith, has.1))
taken (x ∷ xs) (suc k) y (zero, lt, e) = (0, omega arith, ap Some e)
taken (x ∷ xs) (suc k) y (suc j, lt, e) = let r = taken xs k y (j, omega (arith, lt), e) in (suc r.0, omega (arith, r.1), r.2)

pub got_left : {A : Type 0} (xs ys : List A) (k : ℕ) (x : A) → slice_get xs k ≡ Some x → slice_get (xs ++ ys) k ≡ Some x
got_left [] ys k x e = absurd (grind (arith, e))
got_left (z ∷ xs) ys zero x e = e
got_left (z ∷ xs) ys (suc k) x e = got_left xs ys k x e

pub got_right : {A : Type 0} (xs ys : List A) (k : ℕ) → slice_get (xs ++ ys) (length xs + k) ≡ slice_get ys k
got_right [] ys k = ap (slice_get ys) (omega arith)
got_right (z ∷ xs) ys k = ap (slice_get (z ∷ (xs ++ ys))) (next (length xs)) ∙ got_right xs ys k
  where
    next : (n : ℕ) → suc n + k ≡ suc (n + k)
    next n = omega arith

-- what is in the list of one element follows the lists of those before it
pub got_flat : {A B : Type 0} (f : A → List B) (xs : List A) (k : ℕ) (x : A) (j : ℕ) (y : B) → slice_get xs k ≡ Some x → slice_get (f x) j ≡ Some y
    → slice_get (flat_map f xs) (length (flat_map f (take k xs)) + j) ≡ Some y
got_flat f [] k x j y e at = absurd (grind (arith, e))
got_flat f (z ∷ xs) zero x j y e at = ap (slice_get (f z ++ flat_map f xs)) (none j) ∙ got_left (f z) (flat_map f xs) j y (subst (λ w. slice_get (f w) j ≡ Some y) (sym (same e)) at)
  where
    none : (i : ℕ) → 0 + i ≡ i
    none i = omega arith

    same : Some z ≡ Some x → z ≡ x
    same h = grind (arith, h)
got_flat f (z ∷ xs) (suc k) x j y e at =
    ap (slice_get (f z ++ flat_map f xs)) (ap (λ n. n + j) (length-append (f z) (flat_map f (take k xs))) ∙ omega arith)
    ∙ got_right (f z) (flat_map f xs) (length (flat_map f (take k xs)) + j) ∙ got_flat f xs k x j y e at

pub in_prefix : {A : Type 0} (xs ys : List A) (k : ℕ) → k < length xs → slice_get (xs ++ ys) k ≡ slice_get xs k
in_prefix [] ys k lt = absurd (omega (arith, lt))
in_prefix (x ∷ xs) ys zero lt = refl
in_prefix (x ∷ xs) ys (suc k) lt = in_prefix xs ys k (omega (arith, lt))

-- what is at a place
pub got : {A : Type 0} (xs : List A) (k : ℕ) (x d : A) → slice_get xs k ≡ Some x → (k < length xs) × (get_or xs k d ≡ x)
got [] k x d e = cc
got (y ∷ ys) zero x d e = (omega arith, grind (arith, e))
got (y ∷ ys) (suc k) x d e = let rest = got ys k x d e in (omega (arith, rest.0), rest.1)

pub there_at : {A : Type 0} (xs : List A) (k : ℕ) (x : A) → slice_get xs k ≡ Some x → Contains xs x
there_at xs k x at = let g = got xs k x x at in (k, g.0, g.1)

pub got-map : {A B : Type 0} (f : A → B) (xs : List A) (k : ℕ) (x : A) → slice_get xs k ≡ Some x → slice_get (map f xs) k ≡ Some (f x)
got-map f [] k x e = cc
got-map f (y ∷ ys) zero x e = grind (arith, e)
got-map f (y ∷ ys) (suc k) x e = got-map f ys k x e

pub drop_suc : {A : Type 0} (xs : List A) (n : ℕ) (y : A) (ys : List A) → drop n xs ≡ y ∷ ys → (n < length xs) × (slice_get xs n ≡ Some y) × (drop (suc n) xs ≡ ys)
drop_suc [] zero y ys e = cc
drop_suc [] (suc n) y ys e = cc
drop_suc (x ∷ xs) zero y ys e = (omega arith, grind (arith, e), ap (drop 1) e)
drop_suc (x ∷ xs) (suc n) y ys e = let r = drop_suc xs n y ys e in (omega (arith, r.0), r.1, r.2)

pub drop_first : {A : Type 0} (xs : List A) (n : ℕ) (y : A) (ys : List A) → drop n xs ≡ y ∷ ys → (n < length xs) × (slice_get xs n ≡ Some y) × (drop (n + 1) xs ≡ ys)
drop_first xs n y ys e = let r = drop_suc xs n y ys e in (r.0, r.1, ap (λ k. drop k xs) (plus_one n) ∙ r.2)

pub drop_at : {A : Type 0} (xs : List A) (k : ℕ) (x : A) → slice_get xs k ≡ Some x → drop k xs ≡ x ∷ drop (k + 1) xs
drop_at xs k x e = at xs k e ∙ ap (λ j. x ∷ drop j xs) (sym (plus_one k))
  where
    at : (ys : List _) (j : ℕ) → slice_get ys j ≡ Some x → drop j ys ≡ x ∷ drop (suc j) ys
    at [] j e = cc
    at (y ∷ ys) zero e = let is : y ≡ x = grind (arith, e) in ap (λ z. z ∷ ys) is
    at (y ∷ ys) (suc j) e = at ys j e

pub take_at : {A : Type 0} (xs : List A) (k : ℕ) (x : A) → slice_get xs k ≡ Some x → take (k + 1) xs ≡ take k xs ++ x ∷ []
take_at xs k x e = ap (λ j. take j xs) (plus_one k) ∙ at xs k e
  where
    at : (ys : List _) (j : ℕ) → slice_get ys j ≡ Some x → take (suc j) ys ≡ take j ys ++ x ∷ []
    at [] j e = cc
    at (y ∷ ys) zero e = let is : y ≡ x = grind (arith, e) in ap (λ z. z ∷ []) is
    at (y ∷ ys) (suc j) e = ap (λ l. y ∷ l) (at ys j e)

pub get_after : {A : Type 0} (xs : List A) (y : A) (ys : List A) → slice_get (xs ++ y ∷ ys) (length xs) ≡ Some y
get_after [] y ys = refl
get_after (x ∷ xs) y ys = get_after xs y ys

pub set_after : {A : Type 0} (xs : List A) (y z : A) (ys : List A) → slice_set (xs ++ y ∷ ys) (length xs) z ≡ xs ++ z ∷ ys
set_after [] y z ys = refl
set_after (x ∷ xs) y z ys = ap (λ l. x ∷ l) (set_after xs y z ys)

pub get_set_other : {A : Type 0} (xs : List A) (y z : A) (ys : List A) (k : ℕ) → (k ≡ length xs → ⊥) → slice_get (xs ++ y ∷ ys) k ≡ slice_get (xs ++ z ∷ ys) k
get_set_other [] y z ys zero other = absurd (other refl)
get_set_other [] y z ys (suc k) other = refl
get_set_other (x ∷ xs) y z ys zero other = refl
get_set_other (x ∷ xs) y z ys (suc k) other = get_set_other xs y z ys k (λ e. other (ap suc e))

pub some_same : {A : Type 0} (x y : A) → Some x ≡ Some y → x ≡ y
some_same x y e = grind (arith, e)

pub map_at : {A B : Type 0} (f : A → B) (xs : List A) (ys : List B) (k : ℕ) (x : A) (y : B) → slice_get xs k ≡ Some x → ys ≡ map f xs → y ≡ get_or ys k y → y ≡ f x
map_at f xs ys k x y at same is =
    let g = got xs k x x at in
    is ∙ ap (λ l. get_or l k y) same ∙ get_or-map f xs k x y g.0 ∙ ap f g.1

pub head_same : {A : Type 0} (x y : A) (xs ys : List A) → x ∷ xs ≡ y ∷ ys → x ≡ y
head_same x y xs ys e = ap (λ l. get_or l 0 x) e

-- of lists of one element
pub only_one : {A : Type 0} (xs : List A) (d : A) → length xs ≡ 1 → xs ≡ get_or xs 0 d ∷ []
only_one [] d e = absurd (omega (arith, e))
only_one (x ∷ []) d e = refl
only_one (x ∷ y ∷ xs) d e = absurd (omega (arith, e))

pub list_here : (callees : List (Vec ℕ Global)) (place : ℕ) (list : Vec ℕ Global) (items : List ℕ) (lists : List (List ℕ)) → map (λ list. list.items) callees ≡ lists → place < length callees → list ≡ get_or callees place list → items ≡ list.items
    → slice_index_or lists place [] ≡ items
list_here callees place list items lists same lt is here = ap (λ l. get_or l place []) (sym same) ∙ get_or-map (λ list. list.items) callees place list [] lt ∙ ap (λ list. list.items) (sym is) ∙ sym here

-- what is in a map is at the place of an element of which it is the image
pub mapped_at : {A B : Type 0} (f : A → B) (xs : List A) (z : B) → Contains (map f xs) z → (k : ℕ) × (x : A) × (slice_get xs k ≡ Some x) × (f x ≡ z)
mapped_at f [] z has = absurd (omega (arith, has.1))
mapped_at f (x ∷ xs) z (zero, lt, e) = (0, x, refl, e)
mapped_at f (x ∷ xs) z (suc k, lt, e) = let r = mapped_at f xs z (k, omega (arith, lt), e) in (suc r.0, r.1, r.2, r.3)
