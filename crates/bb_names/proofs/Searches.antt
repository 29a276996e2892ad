-- Searches in a list to which one element more is added.
use Rattle.std.proofs.Common.{◌≡◌, ℕ, ◌+◌, Bool, true, false, cond, ◌||◌, ◌&&◌, List, [], ◌∷◌, ◌++◌, length, Option, None, Some, is_some, refl, sym, ap, ◌∙◌, arith, if◌then◌else◌}
use Rattle.std.proofs.lemmas.List.Folds.{find-append, list_any-append}
use Rattle.std.specs.List.{find, list_any, position_from}
use Rattle.std.specs.Option.{option_or, option_and_then}

pub option_or-none : {A : Type 0} (o : Option A) → option_or o None ≡ o
option_or-none None = refl
option_or-none (Some x) = refl

pub option_or-assoc : {A : Type 0} (a b c : Option A) → option_or (option_or a b) c ≡ option_or a (option_or b c)
option_or-assoc None b c = refl
option_or-assoc (Some x) b c = refl

-- an element that does not pass changes nothing
find-alone : {A : Type 0} (p : A → Bool) (x : A) (b : Bool) → p x ≡ b → find p (x ∷ []) ≡ cond b (Some x) None
find-alone p x b e = ap (λ c. cond c (Some x) None) e

pub find-other : {A : Type 0} (p : A → Bool) (xs : List A) (x : A) → p x ≡ false → find p (xs ++ x ∷ []) ≡ find p xs
find-other p xs x miss = find-append p xs (x ∷ []) ∙ ap (option_or (find p xs)) (find-alone p x false miss) ∙ option_or-none (find p xs)

pub find-this : {A : Type 0} (p : A → Bool) (xs : List A) (x : A) → p x ≡ true → find p (xs ++ x ∷ []) ≡ option_or (find p xs) (Some x)
find-this p xs x hit = find-append p xs (x ∷ []) ∙ ap (option_or (find p xs)) (find-alone p x true hit)

or-false : (b : Bool) → (b || false) ≡ b
or-false true = refl
or-false false = refl

or-true : (b : Bool) → (b || true) ≡ true
or-true true = refl
or-true false = refl

pub any-push : {A : Type 0} (p : A → Bool) (xs : List A) (x : A) → list_any p (xs ++ x ∷ []) ≡ (list_any p xs || p x)
any-push p xs x = list_any-append p xs (x ∷ []) ∙ ap (λ b. list_any p xs || b) (or-false (p x))

pub any-other : {A : Type 0} (p : A → Bool) (xs : List A) (x : A) → p x ≡ false → list_any p (xs ++ x ∷ []) ≡ list_any p xs
any-other p xs x miss = any-push p xs x ∙ ap (λ b. list_any p xs || b) miss ∙ or-false (list_any p xs)

pub any-this : {A : Type 0} (p : A → Bool) (xs : List A) (x : A) → p x ≡ true → list_any p (xs ++ x ∷ []) ≡ true
any-this p xs x hit = any-push p xs x ∙ ap (λ b. list_any p xs || b) hit ∙ or-true (list_any p xs)

-- something is found where something passes
pub found-any : {A : Type 0} (p : A → Bool) (xs : List A) → is_some (find p xs) ≡ list_any p xs
found-any p [] = refl
found-any p (x ∷ xs) = by (p x) (found-any p xs)
  where
    by : (b : Bool) → is_some (find p xs) ≡ list_any p xs → is_some (cond b (Some x) (find p xs)) ≡ (b || list_any p xs)
    by true rest = refl
    by false rest = rest

-- what the first says that says something
abbrev pub first_said : {A B : Type 0} → (A → Bool) → (A → Option B) → List A → Option B
first_said p get xs = option_and_then get (find (λ x. p x && is_some (get x)) xs)

pub first_said-push : {A B : Type 0} (p : A → Bool) (get : A → Option B) (xs : List A) (x : A) → first_said p get (xs ++ x ∷ []) ≡ option_or (first_said p get xs) (if p x then get x else None)
first_said-push {A = A} {B = B} p get [] x = by (p x) (get x) refl
  where
    by : (b : Bool) (o : Option B) → get x ≡ o → option_and_then get (cond (b && is_some (get x)) (Some x) None) ≡ (if b then get x else None)
    by false o e = refl
    by true None e = ap (λ z. option_and_then get (cond (is_some z) (Some x) None)) e ∙ sym e
    by true (Some y) e = ap (λ z. option_and_then get (cond (is_some z) (Some x) None)) e
first_said-push {A = A} {B = B} p get (y ∷ ys) x =
    by (p y) (get y) refl (find (λ z. p z && is_some (get z)) (ys ++ x ∷ [])) (find (λ z. p z && is_some (get z)) ys) (if p x then get x else None) (first_said-push p get ys x)
  where
    by : (b : Bool) (o : Option B) → get y ≡ o → (long short : Option A) (t : Option B) → option_and_then get long ≡ option_or (option_and_then get short) t
        → option_and_then get (cond (b && is_some (get y)) (Some y) long) ≡ option_or (option_and_then get (cond (b && is_some (get y)) (Some y) short)) t
    by false o e long short t rest = rest
    by true None e long short t rest =
        ap (λ w. option_and_then get (cond (is_some w) (Some y) long)) e ∙ rest ∙ sym (ap (λ w. option_or (option_and_then get (cond (is_some w) (Some y) short)) t) e)
    by true (Some v) e long short t rest =
        ap (λ w. option_and_then get (cond (is_some w) (Some y) long)) e
        ∙ sym (ap (λ w. option_or (option_and_then get (cond (is_some w) (Some y) short)) t) e ∙ (ap (λ w. option_or w t) e ∙ sym e))

and-right : (a c : Bool) → (a && c) ≡ true → c ≡ true
and-right true c h = h
and-right false true h = refl
and-right false false h = h

pub said-any : {A B : Type 0} (p : A → Bool) (get : A → Option B) (xs : List A) → is_some (first_said p get xs) ≡ list_any (λ x. p x && is_some (get x)) xs
said-any p get [] = refl
said-any {A = A} {B = B} p get (x ∷ xs) = by (p x && is_some (get x)) refl (find (λ z. p z && is_some (get z)) xs) (said-any p get xs)
  where
    by : (b : Bool) → (p x && is_some (get x)) ≡ b → (o : Option A) → is_some (option_and_then get o) ≡ list_any (λ z. p z && is_some (get z)) xs
        → is_some (option_and_then get (cond b (Some x) o)) ≡ (b || list_any (λ z. p z && is_some (get z)) xs)
    by true e o rest = and-right (p x) (is_some (get x)) e
    by false e o rest = rest

-- the first place of what passes
pub position-push : {A : Type 0} (p : A → Bool) (k : ℕ) (xs : List A) (x : A) → position_from p k (xs ++ x ∷ []) ≡ option_or (position_from p k xs) (if p x then Some (k + length xs) else None)
position-push p k [] x = by (p x)
  where
    by : (b : Bool) → cond b (Some k) None ≡ (if b then Some (k + 0) else None)
    by true = ap Some (omega arith)
    by false = refl
position-push p k (y ∷ ys) x = by (p y) (position-push p (k + 1) ys x ∙ ap (λ n. option_or (position_from p (k + 1) ys) (if p x then Some n else None)) (omega arith))
  where
    by : (b : Bool) → position_from p (k + 1) (ys ++ x ∷ []) ≡ option_or (position_from p (k + 1) ys) (if p x then Some (k + length (y ∷ ys)) else None)
        → cond b (Some k) (position_from p (k + 1) (ys ++ x ∷ [])) ≡ option_or (cond b (Some k) (position_from p (k + 1) ys)) (if p x then Some (k + length (y ∷ ys)) else None)
    by true rest = refl
    by false rest = rest
