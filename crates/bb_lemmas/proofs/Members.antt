-- What is in a list that is made from others: by an element before it, a map, a filter, a find, or lists one after another.
use Rattle.std.proofs.Common.{if◌then◌else◌, ◌++◌, ◌||◌, ◌∙◌, ◌∷◌, ◌≡◌, ◌⊎◌, All, Bool, Contains, List, None, Option, Some, [], ap, arith, drop, false, filter, filter_map, find, flat_map, get_or, inl, inr, map, option_map, refl, subst, suc, sym, true, true≢false, zero, ℕ}
use Rattle.std.specs.List.{AllByRecursion, cons_option, filter_map, list_any}
use Rattle.std.proofs.lemmas.List.{get_or-map, length-map}
use Rattle.std.proofs.lemmas.List.Elements.{Contains-append_cases, Contains-append_left, Contains-append_right, Contains-get_or}

pub left_nil : {A : Type 0} (xs ys : List A) → xs ++ ys ≡ [] → xs ≡ []
left_nil [] ys e = refl
left_nil (x ∷ xs) ys e = grind (arith, e)

pub right_nil : {A : Type 0} (xs ys : List A) → xs ++ ys ≡ [] → ys ≡ []
right_nil [] ys e = e
right_nil (x ∷ xs) ys e = grind (arith, e)

module _ {A : Type 0} where
  pub contains_cases : (y : A) (xs : List A) (x : A) → Contains (y ∷ xs) x → (y ≡ x) ⊎ Contains xs x
  contains_cases y xs x (zero, lt, e) = inl e
  contains_cases y xs x (suc k, lt, e) = inr (k, omega (arith, lt), e)

  pub none_in_nil : (x : A) → Contains [] x → ⊥
  none_in_nil x has = omega (arith, has.1)

pub flat_nil : {A B : Type 0} (f : A → List B) (xs : List A) → flat_map f xs ≡ [] → (x : A) → Contains xs x → f x ≡ []
flat_nil f [] e x has = absurd (none_in_nil x has)
flat_nil f (y ∷ ys) e x has = by (contains_cases y ys x has) (flat_nil f ys (right_nil (f y) (flat_map f ys) e) x)
  where
    by : (y ≡ x) ⊎ Contains ys x → (Contains ys x → f x ≡ []) → f x ≡ []
    by (inl same) rest = ap f (sym same) ∙ left_nil (f y) (flat_map f ys) e
    by (inr more) rest = rest more

pub map_nil : {A B : Type 0} (f : A → B) (xs : List A) → map f xs ≡ [] → xs ≡ []
map_nil f [] e = refl
map_nil f (x ∷ xs) e = grind (arith, e)

-- what each element of a list is
pub all_from : {A : Type 0} (P : A → Type 0) (xs : List A) → ((x : A) → Contains xs x → P x) → All P xs
all_from P xs h k d lt = h (get_or xs k d) (Contains-get_or xs k d lt)

module _ {A : Type 0} where
  pub contains_there : (y : A) (xs : List A) (x : A) → Contains xs x → Contains (y ∷ xs) x
  contains_there y xs x has = (suc has.0, omega (arith, has.1), has.2)

  pub contains_here : (x : A) (xs : List A) → Contains (x ∷ xs) x
  contains_here x xs = (0, omega arith, refl)

-- where an element of a flat list comes from
pub from_flat : {A B : Type 0} (f : A → List B) (xs : List A) (z : B) → Contains (flat_map f xs) z → (x : A) × Contains xs x × Contains (f x) z
from_flat f [] z has = absurd (none_in_nil z has)
from_flat f (x ∷ xs) z has = by (Contains-append_cases (f x) (flat_map f xs) z has) (from_flat f xs z)
  where
    by : Contains (f x) z ⊎ Contains (flat_map f xs) z → (Contains (flat_map f xs) z → (y : _) × Contains xs y × Contains (f y) z) → (y : _) × Contains (x ∷ xs) y × Contains (f y) z
    by (inl here) rest = (x, contains_here x xs, here)
    by (inr there) rest = let r = rest there in (r.0, contains_there x xs r.0 r.1, r.2)

pub from_map : {A B : Type 0} (f : A → B) (xs : List A) (z : B) → Contains (map f xs) z → (x : A) × Contains xs x × (f x ≡ z)
from_map f [] z has = absurd (none_in_nil z has)
from_map f (x ∷ xs) z has = by (contains_cases (f x) (map f xs) z has) (from_map f xs z)
  where
    by : (f x ≡ z) ⊎ Contains (map f xs) z → (Contains (map f xs) z → (y : _) × Contains xs y × (f y ≡ z)) → (y : _) × Contains (x ∷ xs) y × (f y ≡ z)
    by (inl e) rest = (x, contains_here x xs, e)
    by (inr there) rest = let r = rest there in (r.0, contains_there x xs r.0 r.1, r.2)

pub find_there : {A : Type 0} (test : A → Bool) (xs : List A) (x : A) → Contains xs x → test x ≡ true → (y : A) × (find test xs ≡ Some y) × (test y ≡ true) × Contains xs y
find_there test [] x has e = absurd (none_in_nil x has)
find_there test (y ∷ ys) x has e = by (test y) refl (λ more. find_there test ys x more e)
  where
    rest : (y ≡ x) ⊎ Contains ys x → test y ≡ false → Contains ys x
    rest (inl same) off = absurd (grind (arith, sym off ∙ ap test same ∙ e))
    rest (inr more) off = more

    by : (b : Bool) → test y ≡ b → (Contains ys x → (z : _) × (find test ys ≡ Some z) × (test z ≡ true) × Contains ys z) → (z : _) × ((if b then Some y else find test ys) ≡ Some z) × (test z ≡ true) × Contains (y ∷ ys) z
    by true on more = (y, refl, on, contains_here y ys)
    by false off more = let r = more (rest (contains_cases y ys x has) off) in (r.0, r.1, r.2, contains_there y ys r.0 r.3)

-- of all by recursion
pub each_of : {A : Type 0} (P : A → Type 0) (xs : List A) → AllByRecursion P xs → (x : A) → Contains xs x → P x
each_of P [] all x has = absurd (none_in_nil x has)
each_of P (y ∷ ys) all x has = by (contains_cases y ys x has) (each_of P ys all.1 x)
  where
    by : (y ≡ x) ⊎ Contains ys x → (Contains ys x → P x) → P x
    by (inl e) rest = subst P e all.0
    by (inr more) rest = rest more

module _ {A : Type 0} where
  -- what a filter keeps is there and passes, and what is there and passes it keeps
  pub kept_from : (test : A → Bool) (xs : List A) (x : A) → Contains (filter test xs) x → Contains xs x × (test x ≡ true)
  kept_from test [] x has = absurd (none_in_nil x has)
  kept_from test (y ∷ ys) x has = by (kept_from test ys x) (test y) refl has
    where
      after : (Contains (filter test ys) x → Contains ys x × (test x ≡ true)) → Contains (filter test ys) x → Contains (y ∷ ys) x × (test x ≡ true)
      after rest h = (contains_there y ys x (rest h).0, (rest h).1)

      from : (Contains (filter test ys) x → Contains ys x × (test x ≡ true)) → test y ≡ true → (y ≡ x) ⊎ Contains (filter test ys) x → Contains (y ∷ ys) x × (test x ≡ true)
      from rest e (inl same) = (subst (λ z. Contains (y ∷ ys) z) same (contains_here y ys), sym (ap test same) ∙ e)
      from rest e (inr more) = after rest more

      by : (Contains (filter test ys) x → Contains ys x × (test x ≡ true)) → (b : Bool) → test y ≡ b → Contains (if b then (y ∷ filter test ys) else filter test ys) x → Contains (y ∷ ys) x × (test x ≡ true)
      by rest false e h = after rest h
      by rest true e h = from rest e (contains_cases y (filter test ys) x h)

  pub keeps : (test : A → Bool) (xs : List A) (x : A) → Contains xs x → test x ≡ true → Contains (filter test xs) x
  keeps test [] x has passes = absurd (none_in_nil x has)
  keeps test (y ∷ ys) x has passes = by (λ more. keeps test ys x more passes) (test y) refl (contains_cases y ys x has)
    where
      by : (Contains ys x → Contains (filter test ys) x) → (b : Bool) → test y ≡ b → (y ≡ x) ⊎ Contains ys x → Contains (if b then (y ∷ filter test ys) else filter test ys) x
      by rest true e (inl same) = subst (λ z. Contains (y ∷ filter test ys) z) same (contains_here y (filter test ys))
      by rest true e (inr more) = contains_there y (filter test ys) x (rest more)
      by rest false e (inl same) = let clash : false ≡ true = sym e ∙ ap test same ∙ passes in grind (arith, clash)
      by rest false e (inr more) = rest more

pub into_flat : {A B : Type 0} (f : A → List B) (xs : List A) (x : A) (z : B) → Contains xs x → Contains (f x) z → Contains (flat_map f xs) z
into_flat f [] x z has here = absurd (none_in_nil x has)
into_flat f (y ∷ ys) x z has here = by (contains_cases y ys x has) (λ more. into_flat f ys x z more here)
  where
    by : (y ≡ x) ⊎ Contains ys x → (Contains ys x → Contains (flat_map f ys) z) → Contains (f y ++ flat_map f ys) z
    by (inl e) rest = Contains-append_left (f y) (flat_map f ys) z (subst (λ w. Contains (f w) z) (sym e) here)
    by (inr more) rest = Contains-append_right (f y) (flat_map f ys) z (rest more)

module _ {A : Type 0} where
  pub contains-map : {B : Type 0} (f : A → B) (xs : List A) (x : A) → Contains xs x → Contains (map f xs) (f x)
  contains-map f xs x has = (has.0, omega (arith, has.1, length-map xs f), get_or-map f xs has.0 x (f x) has.1 ∙ ap f has.2)

pub either : (b : Bool) → (b ≡ true) ⊎ (b ≡ false)
either true = inl refl
either false = inr refl

pub any_there : {A : Type 0} (test : A → Bool) (xs : List A) → list_any test xs ≡ true → (x : A) × Contains xs x × (test x ≡ true)
any_there test [] e = absurd (true≢false (sym e))
any_there test (x ∷ xs) e = by (either (test x)) (any_there test xs)
  where
    by : (test x ≡ true) ⊎ (test x ≡ false) → (list_any test xs ≡ true → (y : _) × Contains xs y × (test y ≡ true)) → (y : _) × Contains (x ∷ xs) y × (test y ≡ true)
    by (inl t) rest = (x, contains_here x xs, t)
    by (inr f) rest = let r = rest (sym (ap (λ b. b || list_any test xs) f) ∙ e) in (r.0, contains_there x xs r.0 r.1, r.2)

pub from_filter : {A B : Type 0} (h : A → Option B) (xs : List A) (z : B) → Contains (filter_map h xs) z → (x : A) × Contains xs x × (h x ≡ Some z)
from_filter h [] z has = absurd (none_in_nil z has)
from_filter h (x ∷ xs) z has = by (h x) refl has (from_filter h xs z)
  where
    by : (o : Option _) → h x ≡ o → Contains (cons_option o (filter_map h xs)) z → (Contains (filter_map h xs) z → (y : _) × Contains xs y × (h y ≡ Some z)) → (y : _) × Contains (x ∷ xs) y × (h y ≡ Some z)
    by None e c rest = let r = rest c in (r.0, contains_there x xs r.0 r.1, r.2)
    by (Some y) e c rest = elim (contains_cases y (filter_map h xs) z c) [
      | inl same ↦ (x, contains_here x xs, e ∙ ap Some same)
      | inr more ↦ let r = rest more in (r.0, contains_there x xs r.0 r.1, r.2)
    ]

pub into_filter : {A B : Type 0} (h : A → Option B) (xs : List A) (x : A) (z : B) → Contains xs x → h x ≡ Some z → Contains (filter_map h xs) z
into_filter h [] x z has e = absurd (none_in_nil x has)
into_filter h (y ∷ ys) x z has e = by (h y) refl (contains_cases y ys x has) (λ more. into_filter h ys x z more e)
  where
    by : (o : Option _) → h y ≡ o → (y ≡ x) ⊎ Contains ys x → (Contains ys x → Contains (filter_map h ys) z) → Contains (cons_option o (filter_map h ys)) z
    by None f (inl same) rest = let no : None ≡ Some z = sym f ∙ ap h same ∙ e in cc
    by None f (inr more) rest = rest more
    by (Some w) f (inl same) rest = let is : Some w ≡ Some z = sym f ∙ ap h same ∙ e in let v : w ≡ z = grind (arith, is) in subst (Contains (w ∷ filter_map h ys)) v (contains_here w (filter_map h ys))
    by (Some w) f (inr more) rest = contains_there w (filter_map h ys) z (rest more)

module _ {A : Type 0} where
  -- what is left after a front was there
  pub from_drop : (n : ℕ) (xs : List A) (x : A) → Contains (drop n xs) x → Contains xs x
  from_drop zero xs x has = has
  from_drop (suc n) [] x has = has
  from_drop (suc n) (y ∷ ys) x has = contains_there y ys x (from_drop n ys x has)

pub mapped_there : {A B : Type 0} (f : A → B) (o : Option A) (y : B) → option_map f o ≡ Some y → (x : A) × (o ≡ Some x) × (f x ≡ y)
mapped_there f None y e = grind (arith, e)
mapped_there f (Some x) y e = (x, refl, grind (arith, e))

pub from_find : {A : Type 0} (test : A → Bool) (xs : List A) (x : A) → find test xs ≡ Some x → Contains xs x × (test x ≡ true)
from_find test [] x e = grind (arith, e)
from_find test (y ∷ ys) x e = by (test y) refl e (from_find test ys x)
  where
    by : (b : Bool) → test y ≡ b → (if b then Some y else find test ys) ≡ Some x → (find test ys ≡ Some x → Contains ys x × (test x ≡ true)) → Contains (y ∷ ys) x × (test x ≡ true)
    by true on h rest = let same : y ≡ x = grind (arith, h) in (subst (Contains (y ∷ ys)) same (contains_here y ys), sym (ap test same) ∙ on)
    by false off h rest = let r = rest h in (contains_there y ys x r.0, r.1)

pub from_filter_map : {A B : Type 0} (h : A → Option B) (xs : List A) (y : B) → Contains (filter_map h xs) y → (x : A) × Contains xs x × (h x ≡ Some y)
from_filter_map h [] y has = absurd (none_in_nil y has)
from_filter_map h (x ∷ xs) y has = by (h x) refl has (from_filter_map h xs y)
  where
    more : (Contains (filter_map h xs) y → (z : _) × Contains xs z × (h z ≡ Some y)) → Contains (filter_map h xs) y → (z : _) × Contains (x ∷ xs) z × (h z ≡ Some y)
    more rest there = let r = rest there in (r.0, contains_there x xs r.0 r.1, r.2)

    first : (u : _) → h x ≡ Some u → (u ≡ y) ⊎ Contains (filter_map h xs) y → (Contains (filter_map h xs) y → (z : _) × Contains xs z × (h z ≡ Some y)) → (z : _) × Contains (x ∷ xs) z × (h z ≡ Some y)
    first u e (inl same) rest = (x, contains_here x xs, e ∙ ap Some same)
    first u e (inr there) rest = more rest there

    by : (o : Option _) → h x ≡ o → Contains (cons_option o (filter_map h xs)) y → (Contains (filter_map h xs) y → (z : _) × Contains xs z × (h z ≡ Some y)) → (z : _) × Contains (x ∷ xs) z × (h z ≡ Some y)
    by None e there rest = more rest there
    by (Some u) e there rest = first u e (contains_cases u (filter_map h xs) y there) rest

pub none_of : {A : Type 0} (test : A → Bool) (xs : List A) → list_any test xs ≡ false → (x : A) → Contains xs x → test x ≡ false
none_of test [] e x has = absurd (none_in_nil x has)
none_of test (y ∷ ys) e x has = by (test y) refl e (contains_cases y ys x has) (none_of test ys)
  where
    by : (b : Bool) → test y ≡ b → (b || list_any test ys) ≡ false → (y ≡ x) ⊎ Contains ys x → (list_any test ys ≡ false → (z : _) → Contains ys z → test z ≡ false) → test x ≡ false
    by true on h at rest = absurd (true≢false h)
    by false off h (inl same) rest = ap test (sym same) ∙ off
    by false off h (inr more) rest = rest h x more

-- what is listed where a test holds: nothing where it does not
pub none_if : {A : Type 0} (b : Bool) (x : A) → (if b then x ∷ [] else []) ≡ [] → b ≡ false
none_if true x e = grind (arith, e)
none_if false x e = refl
