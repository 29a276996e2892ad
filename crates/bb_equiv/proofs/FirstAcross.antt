-- Lists beside each other, element by element: what is first in the one is beside what is first in the other.
use Rattle.std.proofs.Common.{◌≡◌, ◌⊎◌, List, [], ◌∷◌, ◌++◌, Contains, refl, sym, ap, subst, inl, inr}
use Rattle.std.specs.List.{AllZip}
use Rattle.bb_bits.specs.Closures.{IsFirst}
use Rattle.bb_lemmas.proofs.Members.{contains_cases, contains_here, contains_there, none_in_nil}

-- what holds of elements where another thing does
pub first_as : {A : Type 0} (P Q : A → Type 0) → ((x : A) → P x → Q x) → ((x : A) → Q x → P x) → (xs : List A) (x : A) → IsFirst P xs x → IsFirst Q xs x
first_as P Q to back xs x first = record { before = first.before; after = first.after; occurs = first.occurs; holds = to x first.holds; earlier = λ y has q. first.earlier y has (back y q) }

module _ {A B : Type 0} (R : A → B → Type 0) where
  pub beside_left : (xs : List A) (ys : List B) → AllZip R xs ys → (x : A) → Contains xs x → (y : B) × Contains ys y × R x y
  beside_left [] ys zipped x has = absurd (none_in_nil x has)
  beside_left (z ∷ xs) [] zipped x has = absurd zipped
  beside_left (z ∷ xs) (y ∷ ys) zipped x has = by (contains_cases z xs x has) (beside_left xs ys zipped.1 x)
    where
      by : (z ≡ x) ⊎ Contains xs x → (Contains xs x → (u : B) × Contains ys u × R x u) → (u : B) × Contains (y ∷ ys) u × R x u
      by (inl same) rest = (y, contains_here y ys, subst (λ v. R v y) same zipped.0)
      by (inr there) rest = let u = rest there in (u.0, contains_there y ys u.0 u.1, u.2)

  pub beside_right : (xs : List A) (ys : List B) → AllZip R xs ys → (y : B) → Contains ys y → (x : A) × Contains xs x × R x y
  beside_right [] [] zipped y has = absurd (none_in_nil y has)
  beside_right [] (u ∷ ys) zipped y has = absurd zipped
  beside_right (x ∷ xs) [] zipped y has = absurd zipped
  beside_right (x ∷ xs) (u ∷ ys) zipped y has = by (contains_cases u ys y has) (beside_right xs ys zipped.1 y)
    where
      by : (u ≡ y) ⊎ Contains ys y → (Contains ys y → (z : A) × Contains xs z × R z y) → (z : A) × Contains (x ∷ xs) z × R z y
      by (inl same) rest = (x, contains_here x xs, subst (R x) same zipped.0)
      by (inr there) rest = let z = rest there in (z.0, contains_there x xs z.0 z.1, z.2)

  -- the same lists, where each element of the first has a property
  pub beside_with : (P : A → Type 0) (xs : List A) (ys : List B) → AllZip R xs ys → ((x : A) → Contains xs x → P x) → AllZip (λ x y. R x y × P x) xs ys
  beside_with P [] [] zipped each = tt
  beside_with P [] (y ∷ ys) zipped each = absurd zipped
  beside_with P (x ∷ xs) [] zipped each = absurd zipped
  beside_with P (x ∷ xs) (y ∷ ys) zipped each = ((zipped.0, each x (contains_here x xs)), beside_with P xs ys zipped.1 (λ z has. each z (contains_there x xs z has)))

  module _ (P : A → Type 0) (Q : B → Type 0) (to : (x : A) (y : B) → R x y → P x → Q y) (back : (x : A) (y : B) → R x y → Q y → P x) where
    beside_first : (before after : List A) (x : A) (ys : List B) → AllZip R (before ++ x ∷ after) ys → ((z : A) → Contains before z → P z → ⊥) → P x → (y : B) × R x y × IsFirst Q ys y
    beside_first [] after x [] zipped none holds = absurd zipped
    beside_first [] after x (y ∷ ys) zipped none holds =
        (y, zipped.0, record { before = []; after = ys; occurs = refl; holds = to x y zipped.0 holds; earlier = λ z has q. none_in_nil z has })
    beside_first (z ∷ before) after x [] zipped none holds = absurd zipped
    beside_first (z ∷ before) after x (y ∷ ys) zipped none holds =
        let r = beside_first before after x ys zipped.1 (λ u has. none u (contains_there z before u has)) holds in
        let first = r.2 in
        (r.0, r.1, record { before = y ∷ first.before; after = first.after; occurs = ap (λ l. y ∷ l) first.occurs; holds = first.holds; earlier = λ u has q. clash first.before first.earlier u (contains_cases y first.before u has) q })
      where
        clash : (l : List B) → ((u : B) → Contains l u → Q u → ⊥) → (u : B) → (y ≡ u) ⊎ Contains l u → Q u → ⊥
        clash l earlier u (inl same) q = none z (contains_here z before) (back z y zipped.0 (subst Q (sym same) q))
        clash l earlier u (inr there) q = earlier u there q

    pub first_beside : (xs : List A) (ys : List B) → AllZip R xs ys → (x : A) → IsFirst P xs x → (y : B) × R x y × IsFirst Q ys y
    first_beside xs ys zipped x first = beside_first first.before first.after x ys (subst (λ l. AllZip R l ys) first.occurs zipped) first.earlier first.holds

    beside_first_back : (before after : List B) (y : B) (xs : List A) → AllZip R xs (before ++ y ∷ after) → ((z : B) → Contains before z → Q z → ⊥) → Q y → (x : A) × R x y × IsFirst P xs x
    beside_first_back [] after y [] zipped none holds = absurd zipped
    beside_first_back [] after y (x ∷ xs) zipped none holds =
        (x, zipped.0, record { before = []; after = xs; occurs = refl; holds = back x y zipped.0 holds; earlier = λ z has q. none_in_nil z has })
    beside_first_back (z ∷ before) after y [] zipped none holds = absurd zipped
    beside_first_back (z ∷ before) after y (x ∷ xs) zipped none holds =
        let r = beside_first_back before after y xs zipped.1 (λ u has. none u (contains_there z before u has)) holds in
        let first = r.2 in
        (r.0, r.1, record { before = x ∷ first.before; after = first.after; occurs = ap (λ l. x ∷ l) first.occurs; holds = first.holds; earlier = λ u has p. clash first.before first.earlier u (contains_cases x first.before u has) p })
      where
        clash : (l : List A) → ((u : A) → Contains l u → P u → ⊥) → (u : A) → (x ≡ u) ⊎ Contains l u → P u → ⊥
        clash l earlier u (inl same) p = none z (contains_here z before) (to x z zipped.0 (subst P (sym same) p))
        clash l earlier u (inr there) p = earlier u there p

    pub first_beside_back : (xs : List A) (ys : List B) → AllZip R xs ys → (y : B) → IsFirst Q ys y → (x : A) × R x y × IsFirst P xs x
    first_beside_back xs ys zipped y first = beside_first_back first.before first.after y xs (subst (AllZip R xs) first.occurs zipped) first.earlier first.holds
