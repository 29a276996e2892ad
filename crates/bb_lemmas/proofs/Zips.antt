-- Two lists of one length, of which a relation holds element by element.
use Rattle.std.proofs.Common.{◌++◌, ◌∙◌, ◌∷◌, ◌≡◌, ◌⊎◌, All, Contains, List, Some, [], ap, arith, drop, get_or, inl, inr, length, map, refl, subst, suc, sym, zero, zip, ℕ}
use Rattle.std.specs.List.{AllZip, flat_map}
use Rattle.std.specs.Prelude.{slice_get}
use Rattle.std.proofs.lemmas.List.Elements.{All-cons, All-nil}
use Rattle.bb_lemmas.proofs.Members.{contains_cases, contains_here, contains_there, none_in_nil}
use Rattle.bb_lemmas.proofs.Places.{some_same}

pub zip_parts : {A B : Type 0} (xs : List A) (ys : List B) (z : A × B) → Contains (zip xs ys) z → Contains xs z.0 × Contains ys z.1
zip_parts [] ys z has = absurd (none_in_nil z has)
zip_parts (x ∷ xs) [] z has = absurd (none_in_nil z has)
zip_parts (x ∷ xs) (y ∷ ys) z has = by (contains_cases (x, y) (zip xs ys) z has) (zip_parts xs ys z)
  where
    by : ((x, y) ≡ z) ⊎ Contains (zip xs ys) z → (Contains (zip xs ys) z → Contains xs z.0 × Contains ys z.1) → Contains (x ∷ xs) z.0 × Contains (y ∷ ys) z.1
    by (inl e) rest = subst (λ (u : _ × _). Contains (x ∷ xs) u.0 × Contains (y ∷ ys) u.1) e (contains_here x xs, contains_here y ys)
    by (inr more) rest = let r = rest more in (contains_there x xs z.0 r.0, contains_there y ys z.1 r.1)

pub zip_append : {A B : Type 0} (R : A → B → Type 0) (xs : List A) (ys : List B) (us : List A) (vs : List B) → AllZip R xs ys → AllZip R us vs → AllZip R (xs ++ us) (ys ++ vs)
zip_append R [] [] us vs first second = second
zip_append R [] (y ∷ ys) us vs first second = absurd first
zip_append R (x ∷ xs) [] us vs first second = absurd first
zip_append R (x ∷ xs) (y ∷ ys) us vs first second = (first.0, zip_append R xs ys us vs first.1 second)

pub zip_at : {A B : Type 0} (R : A → B → Type 0) (xs : List A) (ys : List B) (k : ℕ) (x : A) (y : B) → AllZip R xs ys → slice_get xs k ≡ Some x → slice_get ys k ≡ Some y → R x y
zip_at R [] ys k x y all e f = cc
zip_at R (a ∷ xs) [] k x y all e f = cc
zip_at R (a ∷ xs) (b ∷ ys) zero x y all e f = subst (R x) (some_same b y f) (subst (λ z. R z b) (some_same a x e) all.0)
zip_at R (a ∷ xs) (b ∷ ys) (suc k) x y all e f = zip_at R xs ys k x y all.1 e f

pub zip_all : {A B : Type 0} (R : A → B → Type 0) (P : A → Type 0) → ((x : A) (y : B) → R x y → P x) → (xs : List A) (ys : List B) → AllZip R xs ys → All P xs
zip_all R P each [] [] zipped = All-nil P
zip_all R P each [] (y ∷ ys) zipped = absurd zipped
zip_all R P each (x ∷ xs) [] zipped = absurd zipped
zip_all R P each (x ∷ xs) (y ∷ ys) zipped = All-cons P x xs (each x y zipped.0) (zip_all R P each xs ys zipped.1)

pub zip_other : {A B : Type 0} (R : A → B → Type 0) (xs : List A) (ys : List B) (k : ℕ) (y : B) → AllZip R xs ys → slice_get ys k ≡ Some y → (x : A) × (slice_get xs k ≡ Some x) × R x y
zip_other R [] [] k y zipped at = cc
zip_other R [] (z ∷ ys) k y zipped at = absurd zipped
zip_other R (x ∷ xs) [] k y zipped at = absurd zipped
zip_other R (x ∷ xs) (z ∷ ys) zero y zipped at = (x, refl, subst (R x) (some_same z y at) zipped.0)
zip_other R (x ∷ xs) (z ∷ ys) (suc k) y zipped at = zip_other R xs ys k y zipped.1 at

pub zip_by : {A B : Type 0} (R : A → B → Type 0) (xs : List A) (ys : List B) → length xs ≡ length ys → ((k : ℕ) (x : A) (y : B) → slice_get xs k ≡ Some x → slice_get ys k ≡ Some y → R x y) → AllZip R xs ys
zip_by R [] [] long each = tt
zip_by R [] (y ∷ ys) long each = absurd (omega (arith, long))
zip_by R (x ∷ xs) [] long each = absurd (omega (arith, long))
zip_by R (x ∷ xs) (y ∷ ys) long each = (each 0 x y refl refl, zip_by R xs ys (omega (arith, long)) (λ k u v f g. each (suc k) u v f g))

-- two lists, number by number
abbrev pub AreNumbered : {A B : Type 0} → List A → List B → A → B → Type 0
AreNumbered xs ys x y = (k : ℕ) × (slice_get xs k ≡ Some x) × (slice_get ys k ≡ Some y)

pub zip_numbered : {A B : Type 0} (xs : List A) (ys : List B) → length xs ≡ length ys → AllZip (AreNumbered xs ys) xs ys
zip_numbered xs ys long = zip_by (AreNumbered xs ys) xs ys long (λ k x y f g. (k, f, g))

pub zip_flat_zip : {A B C D : Type 0} (R : A → B → Type 0) (S : C → D → Type 0) (f : A → List C) (g : B → List D) → ((x : A) (y : B) → R x y → AllZip S (f x) (g y)) → (xs : List A) (ys : List B) → AllZip R xs ys → AllZip S (flat_map f xs) (flat_map g ys)
zip_flat_zip R S f g each [] [] zipped = tt
zip_flat_zip R S f g each [] (y ∷ ys) zipped = absurd zipped
zip_flat_zip R S f g each (x ∷ xs) [] zipped = absurd zipped
zip_flat_zip R S f g each (x ∷ xs) (y ∷ ys) zipped = zip_append S (f x) (g y) (flat_map f xs) (flat_map g ys) (each x y zipped.0) (zip_flat_zip R S f g each xs ys zipped.1)

module _ {A B C D : Type 0} (f : B → D) (g : C → D) where
  -- where a list lies beside each of two whose elements have the same bits, place by place, its elements meet such ones
  pub zip_across : (xs : List A) (ys : List B) (zs : List C) → map f ys ≡ map g zs → (x : A) (y : B) → Contains (zip xs ys) (x, y) → (z : C) × Contains (zip xs zs) (x, z) × (f y ≡ g z)
  zip_across [] ys zs same x y has = absurd (none_in_nil {A = A × B} (x, y) has)
  zip_across (u ∷ us) [] zs same x y has = absurd (none_in_nil {A = A × B} (x, y) has)
  zip_across (u ∷ us) (v ∷ vs) [] same x y has = absurd (grind (arith, same))
  zip_across (u ∷ us) (v ∷ vs) (w ∷ ws) same x y has = by (contains_cases {A = A × B} (u, v) (zip us vs) (x, y) has) (zip_across us vs ws (ap (drop 1) same) x y)
    where
      first : f v ≡ g w
      first = ap (λ l. get_or l 0 (f v)) same

      by : ◌≡◌ {A = A × B} (u, v) (x, y) ⊎ Contains (zip us vs) (x, y) → (Contains (zip us vs) (x, y) → (z : C) × Contains (zip us ws) (x, z) × (f y ≡ g z)) → (z : C) × Contains (zip (u ∷ us) (w ∷ ws)) (x, z) × (f y ≡ g z)
      by (inl e) rest = (w, subst (λ a. Contains (zip (u ∷ us) (w ∷ ws)) (a, w)) (ap (λ (p : A × B). p.0) e) (contains_here {A = A × C} (u, w) (zip us ws)), sym (ap (λ (p : A × B). f p.1) e) ∙ first)
      by (inr more) rest = let r = rest more in (r.0, contains_there {A = A × C} (u, w) (zip us ws) (x, r.0) r.1, r.2)

pub zip_length : {A B : Type 0} (R : A → B → Type 0) (xs : List A) (ys : List B) → AllZip R xs ys → length xs ≡ length ys
zip_length R [] [] all = refl
zip_length R [] (y ∷ ys) all = absurd all
zip_length R (x ∷ xs) [] all = absurd all
zip_length R (x ∷ xs) (y ∷ ys) all = ap suc (zip_length R xs ys all.1)
