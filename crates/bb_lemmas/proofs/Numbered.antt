-- The elements of a list with their numbers.
use Rattle.std.proofs.Common.{◌+◌, ◌<◌, ◌∙◌, ◌∷◌, ◌≡◌, ◌⊎◌, Contains, List, Some, [], ap, arith, get_or, inl, inr, length, map, refl, subst, suc, zero, ℕ}
use Rattle.std.specs.List.{enumerate_from}
use Rattle.std.specs.Prelude.{slice_get}
use Rattle.bb_lemmas.proofs.Members.{contains_cases, contains_here, contains_there, none_in_nil}

pub numbered_there : {A : Type 0} (a : ℕ) (xs : List A) (x : A) → Contains xs x → (k : ℕ) × Contains (enumerate_from a xs) (k, x)
numbered_there a [] x has = absurd (none_in_nil x has)
numbered_there a (y ∷ ys) x has = by (contains_cases y ys x has) (numbered_there (a + 1) ys x)
  where
    by : (y ≡ x) ⊎ Contains ys x → (Contains ys x → (k : ℕ) × Contains (enumerate_from (a + 1) ys) (k, x)) → (k : ℕ) × Contains ((a, y) ∷ enumerate_from (a + 1) ys) (k, x)
    by (inl same) rest = (a, subst (λ z. Contains ((a, y) ∷ enumerate_from (a + 1) ys) (a, z)) same (contains_here (a, y) _))
    by (inr more) rest = let r = rest more in (r.0, contains_there (a, y) (enumerate_from (a + 1) ys) (r.0, x) r.1)

-- an element with its place
pub placed-at : {A : Type 0} (s : ℕ) (xs : List A) (x : ℕ × A) → Contains (enumerate_from s xs) x → (d : ℕ) × (x.0 ≡ s + d) × (slice_get xs d ≡ Some x.1)
placed-at s [] x has = absurd (none_in_nil x has)
placed-at s (y ∷ ys) x has = by (contains_cases (s, y) (enumerate_from (s + 1) ys) x has) (placed-at (s + 1) ys x)
  where
    by : ((s, y) ≡ x) ⊎ Contains (enumerate_from (s + 1) ys) x → (Contains (enumerate_from (s + 1) ys) x → (d : ℕ) × (x.0 ≡ (s + 1) + d) × (slice_get ys d ≡ Some x.1)) → (d : ℕ) × (x.0 ≡ s + d) × (slice_get (y ∷ ys) d ≡ Some x.1)
    by (inl e) rest = let is : s ≡ x.0 = ap (λ z. z.0) e in (0, omega (arith, is), ap (λ z. Some z.1) e)
    by (inr more) rest = let r = rest more in (suc r.0, omega (arith, r.1), r.2)

pub at-place : {A : Type 0} (s : ℕ) (xs : List A) (d : ℕ) (x : A) → slice_get xs d ≡ Some x → Contains (enumerate_from s xs) (s + d, x)
at-place s [] d x e = cc
at-place s (y ∷ ys) zero x e =
    let is : y ≡ x = grind (arith, e) in
    subst (Contains (enumerate_from s (y ∷ ys))) (λ j. (plus-zero s j, is j)) (contains_here (s, y) (enumerate_from (s + 1) ys))
  where
    plus-zero : (s : ℕ) → s ≡ s + 0
    plus-zero s = omega arith
at-place s (y ∷ ys) (suc d) x e =
    subst (Contains (enumerate_from s (y ∷ ys))) (ap (λ k. (k, x)) (plus-suc s d)) (contains_there (s, y) (enumerate_from (s + 1) ys) ((s + 1) + d, x) (at-place (s + 1) ys d x e))
  where
    plus-suc : (s d : ℕ) → (s + 1) + d ≡ s + suc d
    plus-suc s d = omega arith

module _ {A : Type 0} where
  -- the number of an element says where it is
  pub enumerated_from : (a : ℕ) (xs : List A) (k : ℕ) (x : A) → Contains (enumerate_from a xs) (k, x) → (j : ℕ) × (k ≡ a + j) × (j < length xs) × ((d : A) → get_or xs j d ≡ x)
  enumerated_from a [] k x has = absurd (none_in_nil {A = ℕ × A} (k, x) has)
  enumerated_from a (y ∷ ys) k x has = by (contains_cases {A = ℕ × A} (a, y) (enumerate_from (a + 1) ys) (k, x) has) (enumerated_from (a + 1) ys k x)
    where
      by : ◌≡◌ {A = ℕ × A} (a, y) (k, x) ⊎ Contains (enumerate_from (a + 1) ys) (k, x) → (Contains (enumerate_from (a + 1) ys) (k, x) → (j : ℕ) × (k ≡ a + 1 + j) × (j < length ys) × ((d : A) → get_or ys j d ≡ x))
          → (j : ℕ) × (k ≡ a + j) × (j < length (y ∷ ys)) × ((d : A) → get_or (y ∷ ys) j d ≡ x)
      by (inl e) rest = let first : a ≡ k = ap (λ (z : ℕ × A). z.0) e in (0, omega (arith, first), omega arith, λ d. ap (λ (z : ℕ × A). z.1) e)
      by (inr more) rest = let r = rest more in (suc r.0, omega (arith, r.1), omega (arith, r.2), λ d. r.3 d)

  pub enumerated_there : (a : ℕ) (xs : List A) (j : ℕ) (d : A) → j < length xs → Contains (enumerate_from a xs) (a + j, get_or xs j d)
  enumerated_there a [] j d fits = absurd (omega (arith, fits))
  enumerated_there a (y ∷ ys) zero d fits = subst (λ k. Contains (enumerate_from a (y ∷ ys)) (k, y)) (omega arith) (contains_here (a, y) (enumerate_from (a + 1) ys))
  enumerated_there a (y ∷ ys) (suc j) d fits =
      subst (λ k. Contains (enumerate_from a (y ∷ ys)) (k, get_or ys j d)) (omega arith) (contains_there (a, y) (enumerate_from (a + 1) ys) (a + 1 + j, get_or ys j d) (enumerated_there (a + 1) ys j d (omega (arith, fits))))

  -- the same, numbered from 0 on
  pub numbered_at : (xs : List A) (j : ℕ) (d : A) → j < length xs → Contains (enumerate_from 0 xs) (j, get_or xs j d)
  numbered_at xs j d fits = subst (λ k. Contains (enumerate_from 0 xs) (k, get_or xs j d)) (omega arith) (enumerated_there 0 xs j d fits)

  pub mapped_enumerated : {B : Type 0} (f : ℕ × A → B) (a : ℕ) (xs : List A) (j : ℕ) (d : A) (e : B) → j < length xs → get_or (map f (enumerate_from a xs)) j e ≡ f (a + j, get_or xs j d)
  mapped_enumerated f a [] j d e fits = absurd (omega (arith, fits))
  mapped_enumerated f a (y ∷ ys) zero d e fits = ap (λ k. f (k, y)) (omega arith)
  mapped_enumerated f a (y ∷ ys) (suc j) d e fits = mapped_enumerated f (a + 1) ys j d e (omega (arith, fits)) ∙ ap (λ k. f (k, get_or ys j d)) (omega arith)

  pub length-enumerated : (a : ℕ) (xs : List A) → length (enumerate_from a xs) ≡ length xs
  length-enumerated a [] = refl
  length-enumerated a (x ∷ xs) = ap suc (length-enumerated (a + 1) xs)

pub from_numbered : {A : Type 0} (a : ℕ) (xs : List A) (z : ℕ × A) → Contains (enumerate_from a xs) z → Contains xs z.1
from_numbered a [] z has = absurd (none_in_nil z has)
from_numbered a (y ∷ ys) z has = by (contains_cases (a, y) (enumerate_from (a + 1) ys) z has) (from_numbered (a + 1) ys z)
  where
    by : ((a, y) ≡ z) ⊎ Contains (enumerate_from (a + 1) ys) z → (Contains (enumerate_from (a + 1) ys) z → Contains ys z.1) → Contains (y ∷ ys) z.1
    by (inl e) rest = subst (λ u. Contains (y ∷ ys) u.1) e (contains_here y ys)
    by (inr more) rest = contains_there y ys z.1 (rest more)
