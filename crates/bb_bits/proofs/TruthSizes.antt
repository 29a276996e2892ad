-- lists without repetition, and how long they may be
use Rattle.std.proofs.Common.{◌≡◌, ◌≢◌, ◌≤◌, ◌<◌, ◌+◌, ◌↔◌, ◌⊎◌, ℕ, zero, suc, List, [], ◌∷◌, ◌++◌, length, length-append, get_or, refl, sym, ap, ◌∙◌, subst, inl, inr, arith}
use Rattle.std.specs.Prelude.{All, Contains, remove}
use Rattle.std.proofs.lemmas.List.Edits.{length-remove}
use Rattle.std.proofs.lemmas.List.Elements.{All-contains, All-weaker, Contains-push, Contains-append_left, Contains-append_cases}
use Rattle.std.proofs.lemmas.List.Quantifiers.{all_pairs_push}
use Rattle.std.proofs.lemmas.List.{get_or_default}
use Rattle.std.proofs.lemmas.Grind.{in_remove}
use Rattle.bb_bits.specs.Truth.{Truth}
use Rattle.bb_bits.specs.TruthSets.{AreDistinct, HasSize, HasMoreThan, HasAtMost}

-- entries that all are in a second list are at most as many as that has
pub length-le_from_entries : (ts us : List Truth) → AreDistinct ts → ((t : Truth) → Contains ts t → Contains us t) → length ts ≤ length us
length-le_from_entries [] us d h = omega arith
length-le_from_entries (t ∷ ts) us d h =
    let here = h t (0, omega arith, refl) in
    let rest : length ts ≤ length (remove us here.0) =
    length-le_from_entries ts (remove us here.0) (λ i j e lt le. d (suc i) (suc j) e (omega arith) (omega arith)) (λ s in_ts.
    let there = h s (suc in_ts.0, omega (arith, in_ts.1), in_ts.2) in
    let other : there.0 ≢ here.0 = λ same. d 0 (suc in_ts.0) t (omega arith) (omega (arith, in_ts.1))
    (sym here.2 ∙ (get_or_default us here.0 t s here.1 ∙ (ap (λ k. get_or us k s) (sym same) ∙ (there.2 ∙ (sym in_ts.2 ∙ get_or_default ts in_ts.0 s t in_ts.1))))) in
    (in_remove us here.0 there.0 s here.1 there.1 (sym there.2) other).1) in
    omega (arith, length-remove us here.0 here.1)

pub size_is_fixed : (ts us : List Truth) → AreDistinct ts → AreDistinct us → ((t : Truth) → Contains ts t ↔ Contains us t) → length ts ≡ length us
size_is_fixed ts us d e same =
    let below = length-le_from_entries ts us d (λ t. (same t).0) in
    let above = length-le_from_entries us ts e (λ t. (same t).1) in
    omega arith

-- a set that has n members has at most n
pub HasAtMost-from_size : (P : Truth → Type 0) (n : ℕ) → HasSize P n → HasAtMost P n
HasAtMost-from_size P n h ts d all =
    let below = length-le_from_entries ts h.0 d (λ t c. (h.2 t).1 (All-contains P ts t all c)) in
    omega (arith, below, h.3)

-- a set has one size
pub HasSize-one : (P : Truth → Type 0) (m n : ℕ) → HasSize P m → HasSize P n → m ≡ n
HasSize-one P m n h k =
    let same = size_is_fixed h.0 k.0 h.1 k.1 (λ t. (λ c. (k.2 t).1 ((h.2 t).0 c), λ c. (h.2 t).1 ((k.2 t).0 c))) in
    omega (arith, same, h.3, k.3)

-- all entries of the list that counts a set are members
pub All-from_size : (P : Truth → Type 0) (n : ℕ) (h : HasSize P n) → All P h.0
All-from_size P n h k d l = (h.2 (get_or h.0 k d)).0 (k, l, get_or_default h.0 k (get_or h.0 k d) d l)

pub more_than : (P : Truth → Type 0) (n k : ℕ) → HasSize P n → (HasMoreThan P k ↔ (k < n))
more_than P n k h = (
  λ many. let l = HasAtMost-from_size P n h many.0 many.1 many.2 in omega (arith, l, many.3),
  λ l. (h.0, h.1, All-from_size P n h, omega (arith, l, h.3)),
)

pub at_most : (P : Truth → Type 0) (n k : ℕ) → HasSize P n → (HasAtMost P k ↔ (n ≤ k))
at_most P n k h = (
  λ few. let l = few h.0 h.1 (All-from_size P n h) in omega (arith, l, h.3),
  λ l ts d all. let below = HasAtMost-from_size P n h ts d all in omega (arith, below, l),
)

pub not_both : (P : Truth → Type 0) (k : ℕ) → HasMoreThan P k → HasAtMost P k → ⊥
not_both P k many few = let l = few many.0 many.1 many.2 in omega (arith, l, many.3)

pub more_in_larger : (P Q : Truth → Type 0) (k : ℕ) → ((t : Truth) → P t → Q t) → HasMoreThan P k → HasMoreThan Q k
more_in_larger P Q k f many = (many.0, many.1, All-weaker P Q f many.0 many.2, many.3)

pub size_of_same : (P Q : Truth → Type 0) (n : ℕ) → ((t : Truth) → P t ↔ Q t) → HasSize P n → HasSize Q n
size_of_same P Q n same h = (h.0, h.1, λ t. (λ c. (same t).0 ((h.2 t).0 c), λ q. (h.2 t).1 ((same t).1 q)), h.3)

pub one_more : (P Q : Truth → Type 0) (n : ℕ) (t : Truth) → ((u : Truth) → Q u ↔ (P u ⊎ (u ≡ t))) → (P t → ⊥) → HasSize P n → HasSize Q (n + 1)
one_more P Q n t same new h = (
  h.0 ++ t ∷ [],
  all_pairs_push (λ x y. x ≢ y) h.0 t h.1 (λ k d l e. new (subst P e (All-from_size P n h k d l))),
  λ u. (
    λ c. elim (Contains-append_cases h.0 (t ∷ []) u c) [
      | inl before ↦ (same u).1 (inl ((h.2 u).0 before))
      | inr last ↦ (same u).1 (inr (only u last))
    ],
    λ q. elim ((same u).0 q) [
      | inl p ↦ Contains-append_left h.0 (t ∷ []) u ((h.2 u).1 p)
      | inr e ↦ subst (Contains (h.0 ++ t ∷ [])) (sym e) (Contains-push h.0 t)
    ],
  ),
  omega (arith, length-append h.0 (t ∷ []), h.3),
)
  where
    only : (u : Truth) → Contains (t ∷ []) u → u ≡ t
    only u (zero, l, e) = sym e
    only u (suc k, l, e) = absurd (omega (arith, l))
