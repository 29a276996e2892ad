-- Elements in a row: they have numbers one after another, from one on.
use Rattle.std.proofs.Common.{◌≡◌, ℕ, zero, suc, ◌+◌, ◌<◌, List, [], ◌∷◌, ◌++◌, map, flat_map, length, get_or, Some, refl, sym, ap, ap₂, ◌∙◌, subst, arith, length-append}
use Rattle.std.specs.Prelude.{slice_get}
use Rattle.std.specs.List.{range_with_len, enumerate_from}
use Rattle.std.proofs.lemmas.List.{map-append, get_or-map}
use Rattle.std.proofs.lemmas.List.FromFn.{get_or-range_with_len}
use Rattle.bb_lemmas.proofs.Ranges.{range_parts}
use Rattle.bb_lemmas.proofs.Places.{some_same}

pub record AreInRow {A : Type 0} (number : A → ℕ) (at : ℕ) (xs : List A) : Type 0 where
  pub row : map number xs ≡ range_with_len at (length xs)

pub no_row : {A : Type 0} (number : A → ℕ) (at : ℕ) → AreInRow number at []
no_row number at = record { row = refl }

pub next_row : {A : Type 0} (number : A → ℕ) (at : ℕ) (x : A) (xs : List A) → number x ≡ at → AreInRow number (at + 1) xs → AreInRow number at (x ∷ xs)
next_row number at x xs e rest = record { row = ap₂ ◌∷◌ e rest.row }

pub both_rows : {A : Type 0} (number : A → ℕ) (at : ℕ) (xs ys : List A) → AreInRow number at xs → AreInRow number (at + length xs) ys → AreInRow number at (xs ++ ys)
both_rows number at xs ys p q = record {
  row = map-append number xs ys ∙ ap₂ ◌++◌ p.row q.row ∙ sym (range_parts at (length xs) (length ys)) ∙ ap (range_with_len at) (sym (length-append xs ys));
}

-- what is made of a list, element by element
pub mapped_row : {A B : Type 0} (number : B → ℕ) (f : A → B) (xs : List A) (at : ℕ) → ((k : ℕ) (x : A) → slice_get xs k ≡ Some x → number (f x) ≡ at + k) → AreInRow number at (map f xs)
mapped_row number f [] at each = no_row number at
mapped_row number f (x ∷ xs) at each =
    next_row number at (f x) (map f xs) (each 0 x refl ∙ omega arith) (mapped_row number f xs (at + 1) (λ k y e. each (suc k) y e ∙ omega arith))

-- what elements give is in a row, where start says where that of each begins
pub flat_row : {A B : Type 0} (number : B → ℕ) (f : A → List B) (xs : List A) (start : ℕ → ℕ) → ((n : ℕ) (x : A) → slice_get xs n ≡ Some x → AreInRow number (start n) (f x) × (start (suc n) ≡ start n + length (f x)))
    → AreInRow number (start 0) (flat_map f xs) × (start (length xs) ≡ start 0 + length (flat_map f xs))
flat_row number f [] start each = (no_row number (start 0), omega arith)
flat_row number f (x ∷ xs) start each =
    let here = each 0 x refl in
    let rest = flat_row number f xs (λ n. start (suc n)) (λ n y e. each (suc n) y e) in (
      both_rows number (start 0) (f x) (flat_map f xs) here.0 (subst (λ a. AreInRow number a (flat_map f xs)) here.1 rest.0),
      omega (arith, here.1, rest.1, length-append (f x) (flat_map f xs)),
    )

-- the number of the element at a place
pub number_at : {A : Type 0} (number : A → ℕ) (xs : List A) → AreInRow number 0 xs → (k : ℕ) (d : A) → k < length xs → number (get_or xs k d) ≡ k
number_at number xs all k d lt = sym (get_or-map number xs k d 0 lt) ∙ ap (λ z. get_or z k 0) all.row ∙ get_or-range_with_len 0 (length xs) k 0 lt ∙ omega arith

-- the sizes of the elements before a place, together
abbrev pub before : {A : Type 0} → (A → ℕ) → ℕ → List A → ℕ
before size zero xs = 0
before size (suc n) [] = 0
before size (suc n) (x ∷ xs) = size x + before size n xs

pub before-next : {A : Type 0} (size : A → ℕ) (n : ℕ) (xs : List A) (x : A) → slice_get xs n ≡ Some x → before size (suc n) xs ≡ before size n xs + size x
before-next size n [] x e = cc e
before-next size zero (y ∷ xs) x e = ap (λ z. size z + 0) (some_same y x e) ∙ omega arith
before-next size (suc n) (y ∷ xs) x e = let rest = before-next size n xs x e in omega (arith, rest)

-- a numbered element at a place
pub numbered-got : {A : Type 0} (a : ℕ) (xs : List A) (n : ℕ) (z : ℕ × A) → slice_get (enumerate_from a xs) n ≡ Some z → (z.0 ≡ a + n) × (slice_get xs n ≡ Some z.1)
numbered-got a [] n z e = cc e
numbered-got {A = A} a (y ∷ ys) zero z e =
    let same = some_same {A = ℕ × A} (a, y) z e in
    let first : a ≡ z.0 = ap (λ (u : ℕ × A). u.0) same in
    (omega (arith, first), ap (λ (u : ℕ × A). Some u.1) same)
numbered-got a (y ∷ ys) (suc n) z e = let rest = numbered-got (a + 1) ys n z e in (omega (arith, rest.0), rest.1)

pub range-got : (a n k x : ℕ) → slice_get (range_with_len a n) k ≡ Some x → x ≡ a + k
range-got a zero k x e = cc e
range-got a (suc n) zero x e = let same = some_same a x e in omega (arith, same)
range-got a (suc n) (suc k) x e = let rest = range-got (a + 1) n k x e in omega (arith, rest)
