-- Lists that are mapped, sifted and counted.
use Rattle.std.proofs.Common.{◌≡◌, ◌≢◌, ◌∙◌, inl, inr, Bool, true, false, if◌then◌else◌, Option, Some, None, List, [], ◌∷◌, ◌++◌, map, filter, filter_map, flat_map, All, AllPairs, Contains, refl, ap, ap₂, arith}
use Rattle.std.specs.List.{cons_option}
use Rattle.std.proofs.lemmas.Grind.{flat_map-append}
use Rattle.std.proofs.lemmas.List.{map-append}
use Rattle.std.proofs.lemmas.List.Elements.{All-contains, All-head, All-map, All-tail}
use Rattle.std.proofs.lemmas.List.Kept.{AllPairs-cons}
use Rattle.bb_lemmas.proofs.Apart.{pairs_tail}
use Rattle.bb_lemmas.proofs.Members.{all_from, contains_cases, contains_here, contains_there, from_filter_map, none_in_nil}
use Rattle.bb_readback.proofs.Lists.{first_all}

pub only_one_of : {A : Type 0} (x y : A) → Contains (x ∷ []) y → x ≡ y
only_one_of x y has = elim (contains_cases x [] y has) [ inl same ↦ same | inr more ↦ absurd (none_in_nil y more) ]

-- two functions that give the same of each element
pub flat_same : {A B : Type 0} (f g : A → List B) (xs : List A) → All (λ x. f x ≡ g x) xs → flat_map f xs ≡ flat_map g xs
flat_same f g [] same = refl
flat_same f g (x ∷ xs) same = ap₂ ◌++◌ (All-head (λ y. f y ≡ g y) x xs same) (flat_same f g xs (All-tail (λ y. f y ≡ g y) x xs same))

pub flat_flat : {A B C : Type 0} (f : A → List B) (g : B → List C) (xs : List A) → flat_map g (flat_map f xs) ≡ flat_map (λ x. flat_map g (f x)) xs
flat_flat f g [] = refl
flat_flat f g (x ∷ xs) = flat_map-append g (f x) (flat_map f xs) ∙ ap (λ l. flat_map g (f x) ++ l) (flat_flat f g xs)

pub map_flat : {A B C : Type 0} (f : A → List B) (g : B → C) (xs : List A) → map g (flat_map f xs) ≡ flat_map (λ x. map g (f x)) xs
map_flat f g [] = refl
map_flat f g (x ∷ xs) = map-append g (f x) (flat_map f xs) ∙ ap (λ l. map g (f x) ++ l) (map_flat f g xs)

-- a test that all pass, and one that none passes

pub all_kept : {A : Type 0} (test : A → Bool) (xs : List A) → All (λ x. test x ≡ true) xs → filter test xs ≡ xs
all_kept test [] all = refl
all_kept test (x ∷ xs) all =
    ap (λ b. if b then x ∷ filter test xs else filter test xs) (All-head (λ y. test y ≡ true) x xs all)
    ∙ ap (λ l. x ∷ l) (all_kept test xs (All-tail (λ y. test y ≡ true) x xs all))

pub none_kept : {A : Type 0} (test : A → Bool) (xs : List A) → All (λ x. test x ≡ false) xs → filter test xs ≡ []
none_kept test [] none = refl
none_kept test (x ∷ xs) none =
    ap (λ b. if b then x ∷ filter test xs else filter test xs) (All-head (λ y. test y ≡ false) x xs none)
    ∙ none_kept test xs (All-tail (λ y. test y ≡ false) x xs none)

-- pairs of what is made of related elements
pub pairs_sift : {A B : Type 0} (R : A → A → Type 0) (S : B → B → Type 0) (h : A → Option B)
    → ((x y : A) (u v : B) → h x ≡ Some u → h y ≡ Some v → R x y → S u v) → (xs : List A) → AllPairs R xs → AllPairs S (filter_map h xs)
pairs_sift R S h each [] pairs = λ i j d less within. absurd (omega (arith, within))
pairs_sift R S h each (x ∷ xs) pairs = by (h x) refl (pairs_sift R S h each xs (pairs_tail R x xs pairs))
  where
    later : (u v : _) → h x ≡ Some u → Contains (filter_map h xs) v → S u v
    later u v e has =
        let from = from_filter_map h xs v has in
        each x from.0 u v e from.2 (All-contains (R x) xs from.0 (first_all R x xs pairs) from.1)

    by : (o : Option _) → h x ≡ o → AllPairs S (filter_map h xs) → AllPairs S (cons_option o (filter_map h xs))
    by None e rest = rest
    by (Some u) e rest = AllPairs-cons S u (filter_map h xs) (all_from (S u) (filter_map h xs) (λ v has. later u v e has)) rest

-- what differs still differs where a function says all elements apart
pub pairs_reported : {A B : Type 0} (f : A → B) (xs : List A) → ((x y : A) → Contains xs x → Contains xs y → f x ≡ f y → x ≡ y)
    → AllPairs ◌≢◌ xs → AllPairs ◌≢◌ (map f xs)
pairs_reported f [] reported pairs = λ i j d less within. absurd (omega (arith, within))
pairs_reported f (x ∷ xs) reported pairs =
    let others = all_from (λ y. f x ≢ f y) xs (λ y has same.
    All-contains (λ z. x ≢ z) xs y (first_all ◌≢◌ x xs pairs) has (reported x y (contains_here x xs) (contains_there x xs y has) same)) in
    AllPairs-cons ◌≢◌ (f x) (map f xs) (All-map (λ z. f x ≢ z) f xs others)
    (pairs_reported f xs (λ y z one other. reported y z (contains_there x xs y one) (contains_there x xs z other)) (pairs_tail ◌≢◌ x xs pairs))
