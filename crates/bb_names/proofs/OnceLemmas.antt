-- Names that are added once, one after another, are the list of each where it is first.
use Rattle.std.proofs.Common.{◌≡◌, ℕ, ◌+◌, ◌<◌, ◌≤◌, length, take, map, get_or, Bool, true, false, cond, not, ◌||◌, ◌&&◌, List, [], ◌∷◌, ◌++◌, refl, sym, ap, ◌∙◌, append_assoc, append-nil, filter, if◌then◌else◌}
use Rattle.std.proofs.lemmas.Grind.{fold-append}
use Rattle.std.proofs.lemmas.List.Elements.{filter-append}
use Rattle.std.proofs.lemmas.List.Folds.{list_any-append}
use Rattle.std.proofs.lemmas.Cmp.{nat_list_eq_equiv}
use Rattle.std.specs.Prelude.{is_none, is_some}
use Rattle.std.specs.List.{flat_map}
use Rattle.std.specs.Map.{lookup}
use Rattle.bb_names.specs.declared.summary.Summary.{Summary}
use Rattle.indexmap.specs.IndexSet.{insert_key}
use Rattle.bb_bits.specs.Names.{same_name}
use Rattle.bb_names.specs.Inside.Implicit.{all_added, grown}
use Rattle.bb_bits.specs.Earlier.{has_name, once}
use Rattle.bb_names.proofs.Noting.{flat_map-push, seen-more, seen-all}
use Rattle.bb_names.proofs.SummaryLemmas.{same_equal}

pub all_added-append : (old xs ys : List (List ℕ)) → all_added (all_added old xs) ys ≡ all_added old (xs ++ ys)
all_added-append old xs ys = sym (fold-append (insert_key same_name) old xs ys)

-- the names that are not among these
abbrev pub others : List (List ℕ) → List (List ℕ) → List (List ℕ)
others ks xs = filter (λ x. not (has_name x ks)) xs

filter-same : {A : Type 0} (p q : A → Bool) (xs : List A) → ((x : A) → p x ≡ q x) → filter p xs ≡ filter q xs
filter-same p q [] same = refl
filter-same p q (x ∷ xs) same = (λ i. cond (same x i) (x ∷ filter-same p q xs same i) (filter-same p q xs same i))

filter-filter : {A : Type 0} (p q : A → Bool) (xs : List A) → filter p (filter q xs) ≡ filter (λ x. q x && p x) xs
filter-filter p q [] = refl
filter-filter p q (x ∷ xs) = by (q x) (filter-filter p q xs)
  where
    by : (b : Bool) → filter p (filter q xs) ≡ filter (λ y. q y && p y) xs → filter p (cond b (x ∷ filter q xs) (filter q xs)) ≡ cond (b && p x) (x ∷ filter (λ y. q y && p y) xs) (filter (λ y. q y && p y) xs)
    by true rest = ap (λ r. cond (p x) (x ∷ r) r) rest
    by false rest = rest

-- a name that is among these is not among the others in any case
among : (ks : List (List ℕ)) (x y : List ℕ) → has_name x ks ≡ true → (not (same_name x y) && not (has_name y ks)) ≡ not (has_name y ks)
among ks x y here = by (same_name x y) refl
  where
    by : (b : Bool) → same_name x y ≡ b → (not b && not (has_name y ks)) ≡ not (has_name y ks)
    by true e = sym (ap not (ap (λ z. has_name z ks) (sym (same_equal x y e)) ∙ here))
    by false e = refl

pushed : (ks : List (List ℕ)) (x y : List ℕ) → (not (same_name x y) && not (has_name y ks)) ≡ not (has_name y (ks ++ x ∷ []))
pushed ks x y = sym (ap not (list_any-append (same_name y) ks (x ∷ [])) ∙ ap (λ b. not (has_name y ks || (b || false))) (nat_list_eq_equiv.symm y x) ∙ by (has_name y ks) (same_name x y))
  where
    by : (a b : Bool) → not (a || (b || false)) ≡ (not b && not a)
    by true true = refl
    by true false = refl
    by false true = refl
    by false false = refl

pub all_added-once : (ks xs : List (List ℕ)) → all_added ks xs ≡ ks ++ others ks (once xs)
all_added-once ks [] = sym (append-nil ks)
all_added-once ks (x ∷ xs) = by (has_name x ks) refl (all_added-once ks xs) (all_added-once (ks ++ x ∷ []) xs)
  where
    rest : filter (λ y. not (has_name y ks)) (filter (λ y. not (same_name x y)) (once xs)) ≡ filter (λ y. not (same_name x y) && not (has_name y ks)) (once xs)
    rest = filter-filter (λ y. not (has_name y ks)) (λ y. not (same_name x y)) (once xs)

    split : (b : Bool) → has_name x ks ≡ b → others ks (once (x ∷ xs)) ≡ cond (not b) (x ∷ filter (λ y. not (same_name x y) && not (has_name y ks)) (once xs)) (filter (λ y. not (same_name x y) && not (has_name y ks)) (once xs))
    split b e = ap (λ c. cond (not c) (x ∷ filter (λ y. not (has_name y ks)) (filter (λ y. not (same_name x y)) (once xs))) (filter (λ y. not (has_name y ks)) (filter (λ y. not (same_name x y)) (once xs)))) e
        ∙ ap (λ r. cond (not b) (x ∷ r) r) rest

    by : (b : Bool) → has_name x ks ≡ b → all_added ks xs ≡ ks ++ others ks (once xs) → all_added (ks ++ x ∷ []) xs ≡ (ks ++ x ∷ []) ++ others (ks ++ x ∷ []) (once xs)
        → all_added (insert_key same_name ks x) xs ≡ ks ++ others ks (once (x ∷ xs))
    by true e old new =
        ap (λ b. all_added (if b then ks else ks ++ x ∷ []) xs) e ∙ old
        ∙ ap (λ z. ks ++ z) (sym (split true e ∙ filter-same (λ y. not (same_name x y) && not (has_name y ks)) (λ y. not (has_name y ks)) (once xs) (λ y. among ks x y e)))
    by false e old new =
        ap (λ b. all_added (if b then ks else ks ++ x ∷ []) xs) e ∙ new ∙ append_assoc ks (x ∷ []) (others (ks ++ x ∷ []) (once xs))
        ∙ ap (λ z. ks ++ z) (sym (split false e ∙ ap (λ z. x ∷ z) (filter-same (λ y. not (same_name x y) && not (has_name y ks)) (λ y. not (has_name y (ks ++ x ∷ []))) (once xs) (λ y. pushed ks x y))))

others-none : (xs : List (List ℕ)) → others [] xs ≡ xs
others-none [] = refl
others-none (x ∷ xs) = ap (λ z. x ∷ z) (others-none xs)

pub all_added-new : (xs : List (List ℕ)) → all_added [] xs ≡ once xs
all_added-new xs = all_added-once [] xs ∙ others-none (once xs)

-- names that are not declared, added in two steps
pub grown-then : (entries : List (List ℕ × Summary)) (old mid new xs ys : List (List ℕ)) → mid ≡ grown entries old xs → new ≡ grown entries mid ys → new ≡ grown entries old (xs ++ ys)
grown-then entries old mid new xs ys first second =
    second ∙ ap (λ z. grown entries z ys) first
    ∙ all_added-append old (filter (λ n. is_none (lookup (same_name n) entries)) xs) (filter (λ n. is_none (lookup (same_name n) entries)) ys)
    ∙ ap (all_added old) (sym (filter-append (λ n. is_none (lookup (same_name n) entries)) xs ys))

pub grown-once : (entries : List (List ℕ × Summary)) (declared : List ℕ → Bool) (names : List (List ℕ)) → ((n : List ℕ) → is_some (lookup (same_name n) entries) ≡ declared n)
    → grown entries [] names ≡ once (filter (λ n. not (declared n)) names)
grown-once entries declared names reports =
    all_added-new (filter (λ n. is_none (lookup (same_name n) entries)) names) ∙ ap once (filter-same (λ n. is_none (lookup (same_name n) entries)) (λ n. not (declared n)) names (λ n. ap not (reports n)))

-- a loop over a list that is seen through a function
pub grown-turn : {X Y : Type 0} (entries : List (List ℕ × Summary)) (g : Y → List (List ℕ)) (v : X → Y) (xs : List X) (i : ℕ) (x : X) (old mid new : List (List ℕ))
    → i < length xs → x ≡ get_or xs i x → mid ≡ grown entries old (flat_map g (map v (take i xs))) → new ≡ grown entries mid (g (v x)) → new ≡ grown entries old (flat_map g (map v (take (i + 1) xs)))
grown-turn entries g v xs i x old mid new within at before step =
    grown-then entries old mid new (flat_map g (map v (take i xs))) (g (v x)) before step
    ∙ ap (grown entries old) (sym (ap (flat_map g) (seen-more v xs i x within at) ∙ flat_map-push g (map v (take i xs)) (v x)))

pub grown-all : {X Y : Type 0} (entries : List (List ℕ × Summary)) (g : Y → List (List ℕ)) (v : X → Y) (xs : List X) (i : ℕ) (old new : List (List ℕ))
    → length xs ≤ i → new ≡ grown entries old (flat_map g (map v (take i xs))) → new ≡ grown entries old (flat_map g (map v xs))
grown-all entries g v xs i old new past here = here ∙ ap (λ z. grown entries old (flat_map g z)) (seen-all v xs i past)
