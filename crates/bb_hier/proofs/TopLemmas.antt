-- Looking through the modules of a source one after another.
use Rattle.std.proofs.Common.{◌≡◌, ◌<◌, ◌+◌, ◌||◌, ◌++◌, ℕ, zero, suc, Bool, true, false, cond, List, [], ◌∷◌, map, length, take, drop, get_or, Option, Some, None, refl, sym, ap, ◌∙◌, arith}
use Rattle.std.specs.Prelude.{slice_get, filter, option_to_list, IfSome, is_some}
use Rattle.std.specs.Bool.{◌==◌}
use Rattle.std.specs.List.{find, flat_map, list_any}
use Rattle.std.specs.Option.{option_and_then}
use Rattle.std.proofs.Math.Seq.{take-suc}
use Rattle.std.proofs.lemmas.List.Folds.{list_any-append}
use Rattle.indexmap.specs.IndexSet.{insert_key}
use Rattle.bb_bits.specs.Names.{same_name}
use Rattle.bb_ast.specs.Syntax.{PlainConns, PlainItem}
use Rattle.bb_design.specs.Hierarchy.{Instance, instance_of, instances_in, the_only}
use Rattle.bb_lemmas.proofs.Maps.{or-false}
use Rattle.bb_lemmas.proofs.Names.{any-inserted, same_turned}

one-more : (k : ℕ) → k + 1 ≡ suc k
one-more k = omega arith

module _ {A B C : Type 0} (f : A → B) (g : B → C) where
  -- the one that is next in a list
  pub next-found : (p : C → Bool) (xs : List A) (k : ℕ) (x : A) → k < length xs → x ≡ get_or xs k x → p (g (f x)) ≡ true → find p (map g (map f (drop k xs))) ≡ slice_get (map g (map f xs)) k
  next-found p [] k x lt at e = absurd (omega (arith, lt))
  next-found p (y ∷ ys) zero x lt at e = ap (λ b. cond b (Some (g (f y))) (find p (map g (map f ys)))) (ap (λ z. p (g (f z))) (sym at) ∙ e)
  next-found p (y ∷ ys) (suc k) x lt at e = next-found p ys k x (omega (arith, lt)) at e

  pub next-kept : (p : C → Bool) (xs : List A) (k : ℕ) (x : A) → k < length xs → x ≡ get_or xs k x → p (g (f x)) ≡ true
      → filter p (map g (map f (drop k xs))) ≡ option_to_list (slice_get (map g (map f xs)) k) ++ filter p (map g (map f (drop (suc k) xs)))
  next-kept p [] k x lt at e = absurd (omega (arith, lt))
  next-kept p (y ∷ ys) zero x lt at e = ap (λ b. cond b (g (f y) ∷ filter p (map g (map f ys))) (filter p (map g (map f ys)))) (ap (λ z. p (g (f z))) (sym at) ∙ e)
  next-kept p (y ∷ ys) (suc k) x lt at e = next-kept p ys k x (omega (arith, lt)) at e

  pub next-dropped : (p : C → Bool) (xs : List A) (k : ℕ) (x : A) → k < length xs → x ≡ get_or xs k x → p (g (f x)) ≡ false
      → filter p (map g (map f (drop k xs))) ≡ filter p (map g (map f (drop (suc k) xs)))
  next-dropped p [] k x lt at e = absurd (omega (arith, lt))
  next-dropped p (y ∷ ys) zero x lt at e = ap (λ b. cond b (g (f y) ∷ filter p (map g (map f ys))) (filter p (map g (map f ys)))) (ap (λ z. p (g (f z))) (sym at) ∙ e)
  next-dropped p (y ∷ ys) (suc k) x lt at e = next-dropped p ys k x (omega (arith, lt)) at e

  pub got-there : (xs : List A) (k : ℕ) → k < length xs → (z : C) × (slice_get (map g (map f xs)) k ≡ Some z)
  got-there [] k lt = absurd (omega (arith, lt))
  got-there (x ∷ xs) zero lt = (g (f x), refl)
  got-there (x ∷ xs) (suc k) lt = got-there xs k (omega (arith, lt))

or-assoc : (a b c : Bool) → ((a || b) || c) ≡ (a || (b || c))
or-assoc true b c = refl
or-assoc false b c = refl

any-map : {A B : Type 0} (p : B → Bool) (f : A → B) (xs : List A) → list_any p (map f xs) ≡ list_any (λ x. p (f x)) xs
any-map p f [] = refl
any-map p f (x ∷ xs) = ap (λ b. p (f x) || b) (any-map p f xs)

-- whether one of a front passes a test, with one more in the front
any-prefix : {A : Type 0} (p : A → Bool) (xs : List A) (k : ℕ) (x : A) → k < length xs → x ≡ get_or xs k x → list_any p (take (suc k) xs) ≡ (list_any p (take k xs) || p x)
any-prefix p xs k x lt at = ap (list_any p) (take-suc xs k x lt) ∙ list_any-append p (take k xs) (get_or xs k x ∷ []) ∙ ap (λ b. list_any p (take k xs) || b) (or-false (p (get_or xs k x)) ∙ ap p (sym at))

-- a step through a list: what was found before, and what is found here
pub any-step : {A B : Type 0} (p : B → Bool) (f : A → B) (xs : List A) (k : ℕ) (x : A) (initial old now : Bool) → k < length xs → x ≡ get_or xs k x
    → old ≡ (initial || list_any p (map f (take k xs))) → now ≡ (old || p (f x)) → now ≡ (initial || list_any p (map f (take (k + 1) xs)))
any-step p f xs k x initial old now lt at before here =
    here ∙ ap (λ b. b || p (f x)) before ∙ or-assoc initial (list_any p (map f (take k xs))) (p (f x))
    ∙ ap (λ b. initial || (b || p (f x))) (any-map p f (take k xs)) ∙ ap (λ b. initial || b) (sym (any-prefix (λ y. p (f y)) xs k x lt at)) ∙ ap (λ b. initial || b) (sym (any-map p f (take (suc k) xs)))
    ∙ ap (λ j. initial || list_any p (map f (take j xs))) (sym (one-more k))

-- the same where two functions are mapped
pub any-twice : {A B C : Type 0} (p : C → Bool) (f : A → B) (g : B → C) (xs : List A) → list_any p (map g (map f xs)) ≡ list_any p (map (λ x. g (f x)) xs)
any-twice p f g xs = any-map p g (map f xs) ∙ any-map (λ y. p (g y)) f xs ∙ sym (any-map p (λ x. g (f x)) xs)

-- two that are kept are not the only one
pub not-only : {A : Type 0} (all rest : List A) (o q : Option A) (y z : A) → all ≡ option_to_list o ++ (option_to_list q ++ rest) → o ≡ Some y → q ≡ Some z → the_only all ≡ None
not-only all rest o q y z e f g = ap the_only (e ∙ ap (λ x. option_to_list x ++ (option_to_list q ++ rest)) f ∙ ap (λ x. y ∷ (option_to_list x ++ rest)) g)

pub only-one : {A : Type 0} (all rest : List A) (o : Option A) → all ≡ option_to_list o ++ rest → rest ≡ [] → the_only all ≡ o
only-one all rest None e f = ap the_only (e ∙ f)
only-one all rest (Some x) e f = ap the_only (e ∙ ap (λ r. x ∷ r) f)

-- whether an item with instances of a module has one of a name
pub any-target : (n target : List ℕ) (calls : List (List ℕ × PlainConns)) → 0 < length calls → list_any (λ (i : Instance). same_name i.target n) (map (instance_of target) calls) ≡ same_name n target
any-target n target [] lt = absurd (omega (arith, lt))
any-target n target (x ∷ calls) lt = all (same_name target n) refl calls ∙ same_turned target n
  where
    all : (b : Bool) → same_name target n ≡ b → (rest : List (List ℕ × PlainConns)) → (b || list_any (λ (i : Instance). same_name i.target n) (map (instance_of target) rest)) ≡ b
    all true e rest = refl
    all false e [] = refl
    all false e (y ∷ rest) = ap (λ b. b || list_any (λ (i : Instance). same_name i.target n) (map (instance_of target) rest)) e ∙ all false e rest

pub filter-same : {A : Type 0} (p q : A → Bool) → ((x : A) → p x ≡ q x) → (xs : List A) → filter p xs ≡ filter q xs
filter-same p q same [] = refl
filter-same p q same (x ∷ xs) = by (p x) (q x) (same x) (filter-same p q same xs)
  where
    by : (a b : Bool) → a ≡ b → filter p xs ≡ filter q xs → cond a (x ∷ filter p xs) (filter p xs) ≡ cond b (x ∷ filter q xs) (filter q xs)
    by true true e rest = ap (λ l. x ∷ l) rest
    by false false e rest = rest
    by true false e rest = cc
    by false true e rest = cc

module _ {A B C : Type 0} (f : A → B) (g : B → C) (p : C → Bool) (xs : List A) (k : ℕ) (x : A) (lt : k < length xs) (at : x ≡ get_or xs k x) (kept : p (g (f x)) ≡ true) where
  -- a second one that is kept: then none is the only one
  pub second-kept : (found : Option ℕ) → IfSome found (λ j. j < length xs) → filter p (map g (map f xs)) ≡ option_to_list (option_and_then (slice_get (map g (map f xs))) found) ++ filter p (map g (map f (drop k xs)))
      → is_some found ≡ true → the_only (filter p (map g (map f xs))) ≡ None
  second-kept None there e some = cc
  second-kept (Some j) there e some =
      let one = got-there f g xs j there in
      let two = got-there f g xs k lt in
      not-only (filter p (map g (map f xs))) (filter p (map g (map f (drop (suc k) xs)))) (slice_get (map g (map f xs)) j) (slice_get (map g (map f xs)) k) one.0 two.0
      (e ∙ ap (λ l. option_to_list (slice_get (map g (map f xs)) j) ++ l) (next-kept f g p xs k x lt at kept)) one.1 two.1

  -- the first one that is kept
  pub first-kept : (found now : Option ℕ) → filter p (map g (map f xs)) ≡ option_to_list (option_and_then (slice_get (map g (map f xs))) found) ++ filter p (map g (map f (drop k xs)))
      → is_some found ≡ false → now ≡ Some k → filter p (map g (map f xs)) ≡ option_to_list (option_and_then (slice_get (map g (map f xs))) now) ++ filter p (map g (map f (drop (k + 1) xs)))
  first-kept None now e none is =
      e ∙ next-kept f g p xs k x lt at kept ∙ ap (λ j. option_to_list (slice_get (map g (map f xs)) k) ++ filter p (map g (map f (drop j xs)))) (sym (one-more k))
      ∙ ap (λ o. option_to_list (option_and_then (slice_get (map g (map f xs))) o) ++ filter p (map g (map f (drop (k + 1) xs)))) (sym is)
  first-kept (Some j) now e none is = cc

-- one that is not kept
pub none-kept : {A B C : Type 0} (f : A → B) (g : B → C) (p : C → Bool) (xs : List A) (k : ℕ) (x : A) → k < length xs → x ≡ get_or xs k x → p (g (f x)) ≡ false → (found now : Option ℕ)
    → filter p (map g (map f xs)) ≡ option_to_list (option_and_then (slice_get (map g (map f xs))) found) ++ filter p (map g (map f (drop k xs)))
    → now ≡ found → filter p (map g (map f xs)) ≡ option_to_list (option_and_then (slice_get (map g (map f xs))) now) ++ filter p (map g (map f (drop (k + 1) xs)))
none-kept f g p xs k x lt at dropped found now e is =
    e ∙ ap (λ l. option_to_list (option_and_then (slice_get (map g (map f xs))) found) ++ l) (next-dropped f g p xs k x lt at dropped ∙ ap (λ j. filter p (map g (map f (drop j xs)))) (sym (one-more k)))
    ∙ ap (λ o. option_to_list (option_and_then (slice_get (map g (map f xs))) o) ++ filter p (map g (map f (drop (k + 1) xs)))) (sym is)

-- a step through modules
pub target-step : {A B C : Type 0} (p : C → Bool) (f : A → B) (g : B → C) (xs : List A) (k : ℕ) (x : A) (old now : Bool) → k < length xs → x ≡ get_or xs k x
    → old ≡ list_any p (map g (map f (take k xs))) → now ≡ (old || p (g (f x))) → now ≡ list_any p (map g (map f (take (k + 1) xs)))
target-step p f g xs k x old now lt at before here = any-step p (λ y. g (f y)) xs k x false old now lt at (before ∙ any-twice p f g (take k xs)) here ∙ sym (any-twice p f g (take (k + 1) xs))

-- what an item with an instance adds
pub inserted-target : (n old target : List ℕ) (keys now : List (List ℕ)) (calls : List (List ℕ × PlainConns)) → now ≡ insert_key same_name keys old → old ≡ target → 0 < length calls
    → list_any (same_name n) now ≡ (list_any (same_name n) keys || list_any (λ (i : Instance). same_name i.target n) (map (instance_of target) calls))
inserted-target n old target keys now calls e same some =
    ap (list_any (same_name n)) e ∙ any-inserted n keys old ∙ ap (λ t. list_any (same_name n) keys || same_name n t) same ∙ ap (λ b. list_any (same_name n) keys || b) (sym (any-target n target calls some))

-- whether one of the instances of a module passes a test
pub any-instances : (p : Instance → Bool) (items : List PlainItem) → list_any (λ (item : PlainItem). list_any p (instances_in item.body)) items ≡ list_any p (flat_map (λ (item : PlainItem). instances_in item.body) items)
any-instances p [] = refl
any-instances p (item ∷ items) = ap (λ b. list_any p (instances_in item.body) || b) (any-instances p items) ∙ sym (list_any-append p (instances_in item.body) (flat_map (λ (item : PlainItem). instances_in item.body) items))

pub not-none : (b : Bool) (n : ℕ) → b ≡ (n == 0) → b ≡ false → 0 < n
not-none b zero e f = cc
not-none b (suc n) e f = omega arith
