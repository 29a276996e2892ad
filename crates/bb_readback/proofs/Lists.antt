-- Lists of which each element gives nothing, what is found in a list, and relations between each element and those after it.
use Rattle.std.proofs.Common.{◌≡◌, ◌∙◌, ◌⊎◌, inl, inr, ℕ, zero, suc, Bool, true, false, if◌then◌else◌, Option, Some, None, List, [], ◌∷◌, ◌++◌, append_assoc, length, map, flat_map, find, zip, All, AllPairs, Contains, refl, sym, ap, ap₂, subst, arith}
use Rattle.std.specs.List.{list_any}
use Rattle.std.proofs.lemmas.List.Elements.{All-append, All-contains, All-head, All-map, All-nil, All-tail, All-weaker, Contains-append_right}
use Rattle.std.proofs.lemmas.List.Folds.{list_any_at, list_any_none}
use Rattle.std.proofs.lemmas.List.Kept.{AllPairs-cons}
use Rattle.std.proofs.lemmas.Option.{none-some, slice_get_read}
use Rattle.std.specs.Prelude.{slice_get}
use Rattle.bb_bits.specs.Earlier.{each_from}
use Rattle.bb_lemmas.proofs.Apart.{pairs_tail}
use Rattle.bb_lemmas.proofs.Members.{all_from, contains_cases, contains_here, contains_there, none_in_nil}
use Rattle.bb_lemmas.proofs.Places.{some_same}

pub flat_none : {A B : Type 0} (f : A → List B) (xs : List A) → All (λ x. f x ≡ []) xs → flat_map f xs ≡ []
flat_none f [] none = refl
flat_none f (x ∷ xs) none = ap (λ l. l ++ flat_map f xs) (All-head (λ y. f y ≡ []) x xs none) ∙ flat_none f xs (All-tail (λ y. f y ≡ []) x xs none)

-- each element gives nothing after those that precede it
pub each_none : {A B : Type 0} (gives : List A → A → List B) (before xs : List A)
    → ((prefix : List A) (x : A) (back : List A) → before ++ xs ≡ prefix ++ x ∷ back → gives prefix x ≡ []) → each_from gives before xs ≡ []
each_none gives before [] none = refl
each_none gives before (x ∷ xs) none =
    ap (λ l. l ++ each_from gives (before ++ x ∷ []) xs) (none before x xs refl)
    ∙ each_none gives (before ++ x ∷ []) xs (λ prefix y back e. none prefix y back (sym (append_assoc before (x ∷ []) xs) ∙ e))

pub each_all : {A B : Type 0} (P : B → Type 0) (gives : List A → A → List B) (before xs : List A)
    → ((prefix : List A) (x : A) (back : List A) → before ++ xs ≡ prefix ++ x ∷ back → All P (gives prefix x))
    → All P (each_from gives before xs)
each_all P gives before [] all = All-nil P
each_all P gives before (x ∷ xs) all =
    All-append P (gives before x) (each_from gives (before ++ x ∷ []) xs) (all before x xs refl)
    (each_all P gives (before ++ x ∷ []) xs (λ prefix y back e. all prefix y back (sym (append_assoc before (x ∷ []) xs) ∙ e)))

-- what holds of nothing and of each element that passes holds of what is found
pub find_gives : {A : Type 0} (test : A → Bool) (P : Option A → Type 0) (xs : List A) → P None
    → ((x : A) → Contains xs x → test x ≡ true → P (Some x)) → P (find test xs)
find_gives test P [] none some = none
find_gives test P (x ∷ xs) none some = by (test x) refl (find_gives test P xs none (λ y has. some y (contains_there x xs y has)))
  where
    by : (b : Bool) → test x ≡ b → P (find test xs) → P (if b then Some x else find test xs)
    by true passes rest = some x (contains_here x xs) passes
    by false fails rest = rest

pub any_none : {A : Type 0} (test : A → Bool) (xs : List A) → ((x : A) → Contains xs x → test x ≡ false) → list_any test xs ≡ false
any_none test xs none = list_any_none test xs (all_from (λ x. test x ≡ false) xs none)

pub any_here : {A : Type 0} (test : A → Bool) (xs : List A) (x : A) → Contains xs x → test x ≡ true → list_any test xs ≡ true
any_here test xs x has passes = list_any_at test xs has.0 x has.1 (ap test has.2 ∙ passes)

-- the first is related to all after it
pub first_all : {A : Type 0} (R : A → A → Type 0) (x : A) (xs : List A) → AllPairs R (x ∷ xs) → All (R x) xs
first_all R x xs pairs k d within = pairs 0 (suc k) d (omega arith) (omega (arith, within))

pub pairs_map : {A B : Type 0} (R : A → A → Type 0) (S : B → B → Type 0) (f : A → B) → ((x y : A) → R x y → S (f x) (f y)) → (xs : List A)
    → AllPairs R xs → AllPairs S (map f xs)
pairs_map R S f each [] pairs = λ i j d less within. absurd (omega (arith, within))
pairs_map R S f each (x ∷ xs) pairs =
    AllPairs-cons S (f x) (map f xs) (All-map (S (f x)) f xs (All-weaker (R x) (λ y. S (f x) (f y)) (each x) xs (first_all R x xs pairs)))
    (pairs_map R S f each xs (pairs_tail R x xs pairs))

pub pairs_both : {A : Type 0} (R : A → A → Type 0) (xs ys : List A) → AllPairs R xs → AllPairs R ys
    → ((x y : A) → Contains xs x → Contains ys y → R x y) → AllPairs R (xs ++ ys)
pairs_both R [] ys a b cross = b
pairs_both R (x ∷ xs) ys a b cross =
    AllPairs-cons R x (xs ++ ys) (All-append (R x) xs ys (first_all R x xs a) (all_from (R x) ys (λ y has. cross x y (contains_here x xs) has)))
    (pairs_both R xs ys (pairs_tail R x xs a) b (λ z y l r. cross z y (contains_there x xs z l) r))

-- what precedes an element is related to it
pub pairs_before : {A : Type 0} (R : A → A → Type 0) (xs : List A) (y : A) (ys : List A) → AllPairs R (xs ++ y ∷ ys) → (x : A)
    → Contains xs x → R x y
pairs_before R [] y ys pairs x has = absurd (none_in_nil x has)
pairs_before R (z ∷ xs) y ys pairs x has = by (contains_cases z xs x has) (pairs_before R xs y ys (pairs_tail R z (xs ++ y ∷ ys) pairs) x)
  where
    by : (z ≡ x) ⊎ Contains xs x → (Contains xs x → R x y) → R x y
    by (inl same) rest =
        subst (λ w. R w y) same
        (All-contains (R z) (xs ++ y ∷ ys) y (first_all R z (xs ++ y ∷ ys) pairs) (Contains-append_right xs (y ∷ ys) y (contains_here y ys)))
    by (inr more) rest = rest more

-- the place of an element

pub placed : {A : Type 0} (xs : List A) (x : A) → Contains xs x → (k : ℕ) × (slice_get xs k ≡ Some x)
placed xs x (k, within, is) = (k, slice_get_read xs (length xs) k x refl within (sym is))

-- two lists side by side, place by place

pub zip_place : {A B : Type 0} (xs : List A) (ys : List B) (z : A × B) → Contains (zip xs ys) z
    → (k : ℕ) × (slice_get xs k ≡ Some z.0) × (slice_get ys k ≡ Some z.1)
zip_place [] ys z has = absurd (none_in_nil z has)
zip_place (x ∷ xs) [] z has = absurd (none_in_nil z has)
zip_place {A = A} {B = B} (x ∷ xs) (y ∷ ys) z has = by (contains_cases {A = A × B} (x, y) (zip xs ys) z has) (zip_place xs ys z)
  where
    by : ◌≡◌ {A = A × B} (x, y) z ⊎ Contains (zip xs ys) z → (Contains (zip xs ys) z → (k : ℕ) × (slice_get xs k ≡ Some z.0) × (slice_get ys k ≡ Some z.1))
        → (k : ℕ) × (slice_get (x ∷ xs) k ≡ Some z.0) × (slice_get (y ∷ ys) k ≡ Some z.1)
    by (inl same) rest = (0, ap (λ (u : A × B). Some u.0) same, ap (λ (u : A × B). Some u.1) same)
    by (inr more) rest = let place = rest more in (suc place.0, place.1, place.2)

pub zip_there : {A B : Type 0} (xs : List A) (ys : List B) (z : A × B) (k : ℕ) → slice_get xs k ≡ Some z.0 → slice_get ys k ≡ Some z.1
    → Contains (zip xs ys) z
zip_there [] ys z k one other = absurd (none-some z.0 one)
zip_there (x ∷ xs) [] z k one other = absurd (none-some z.1 other)
zip_there {A = A} {B = B} (x ∷ xs) (y ∷ ys) z zero one other =
    subst (λ (u : A × B). Contains (zip (x ∷ xs) (y ∷ ys)) u) (ap₂ {C = A × B} (λ a b. (a, b)) (some_same x z.0 one) (some_same y z.1 other))
    (contains_here {A = A × B} (x, y) (zip xs ys))
zip_there {A = A} {B = B} (x ∷ xs) (y ∷ ys) z (suc k) one other = contains_there {A = A × B} (x, y) (zip xs ys) z (zip_there xs ys z k one other)
