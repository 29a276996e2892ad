-- Places of a list that are in a row, and what is made of lists place by place.
use Rattle.std.proofs.Common.{◌≡◌, ℕ, zero, suc, ◌+◌, false, List, [], ◌∷◌, ◌++◌, map, drop, length, get_or, All, Some, refl, sym, ap, ap₂, ◌∙◌, arith, length-append}
use Rattle.std.specs.Prelude.{slice_get}
use Rattle.std.specs.List.{AllZip, enumerate_from, range_with_len}
use Rattle.std.proofs.lemmas.List.{map-append, get_or-map}
use Rattle.std.proofs.lemmas.List.FromFn.{get_or-range_with_len}
use Rattle.bb_net.specs.declared.loose.LooseCell.{LooseCell}
use Rattle.bb_net.specs.declared.loose.LooseCell.TheVariants as cell
use Rattle.bb_net.specs.Loose.{LooseList, loose_at}
use Rattle.bb_blast.specs.Inside.Counting.{capped, after}
use Rattle.bb_implements.specs.Places.{CellName, Numbering}

pub map-same : {A B : Type 0} (f g : A → B) → ((x : A) → f x ≡ g x) → (xs : List A) → map f xs ≡ map g xs
map-same f g same [] = refl
map-same f g same (x ∷ xs) = ap₂ ◌∷◌ (same x) (map-same f g same xs)

abbrev pub Entry : Type 0
Entry = CellName × LooseCell

-- places that are in a row from a number on, as far as 32 bits say
pub record AreInRow (number : Numbering) (at : ℕ) (all : List Entry) : Type 0 where
  pub row : map (λ (x : Entry). number x.0) all ≡ map capped (range_with_len at (length all))

pub range_both : (a n m : ℕ) → range_with_len a (n + m) ≡ range_with_len a n ++ range_with_len (a + n) m
range_both a zero m = ap₂ range_with_len (omega arith) (omega arith)
range_both a (suc n) m =
    let one : suc n + m ≡ suc (n + m) = omega arith in
    ap (range_with_len a) one ∙ ap (λ l. a ∷ l) (range_both (a + 1) n m ∙ ap (λ b. range_with_len (a + 1) n ++ range_with_len b m) (omega arith))

module _ (number : Numbering) where
  pub both_rows : (at : ℕ) (xs ys : List Entry) → AreInRow number at xs → AreInRow number (at + length xs) ys → AreInRow number at (xs ++ ys)
  both_rows at xs ys p q = record {
    row = map-append (λ (x : Entry). number x.0) xs ys ∙ ap₂ ◌++◌ p.row q.row ∙ sym (map-append capped (range_with_len at (length xs)) (range_with_len (at + length xs) (length ys)))
        ∙ ap (map capped) (sym (range_both at (length xs) (length ys)) ∙ ap (range_with_len at) (sym (length-append xs ys)));
  }

  pub no_row : (at : ℕ) → AreInRow number at []
  no_row at = record { row = refl }

  pub one_row : (at : ℕ) (x : Entry) → number x.0 ≡ capped at → AreInRow number at (x ∷ [])
  one_row at x e = record { row = ap (λ (n : ℕ). n ∷ []) e }

-- the cells of entries
abbrev pub cells_in : List Entry → List LooseCell
cells_in all = map (λ (x : Entry). x.1) all

-- what is made of numbered elements, place by place
pub rows_same : {A B C : Type 0} (f : A → C) (g : B → C) (h k : ℕ → ℕ) (a : ℕ) (xs : List A) (ys : List B) → map f xs ≡ map g ys → ((i : ℕ) → h i ≡ k i)
    → map {B = C × ℕ} (λ x. (f x.1, h x.0)) (enumerate_from a xs) ≡ map {B = C × ℕ} (λ x. (g x.1, k x.0)) (enumerate_from a ys)
rows_same f g h k a [] [] e same = refl
rows_same f g h k a [] (y ∷ ys) e same = absurd (grind (arith, e))
rows_same f g h k a (x ∷ xs) [] e same = absurd (grind (arith, e))
rows_same {C = C} f g h k a (x ∷ xs) (y ∷ ys) e same =
    ap₂ ◌∷◌ (ap₂ (λ (u : C) (v : ℕ). (u, v)) (ap (λ l. get_or l 0 (f x)) e) (same a)) (rows_same f g h k (a + 1) xs ys (ap (drop 1) e) same)

pub numbers_from : {A B : Type 0} (f : ℕ → B) (a : ℕ) (xs : List A) → map (λ (x : ℕ × A). f x.0) (enumerate_from a xs) ≡ map f (range_with_len a (length xs))
numbers_from f a [] = refl
numbers_from f a (x ∷ xs) = ap (λ l. f a ∷ l) (numbers_from f (a + 1) xs)

pub moved_row : (at a n : ℕ) → map (after at) (range_with_len a n) ≡ map capped (range_with_len (at + a) n)
moved_row at a zero = refl
moved_row at a (suc n) = ap (λ l. after at a ∷ l) (moved_row at (a + 1) n ∙ ap (λ m. map capped (range_with_len m n)) (omega arith))

pub row_of : {A : Type 0} (f : A → ℕ) (xs : List A) (at : ℕ) → ((k : ℕ) (x : A) → slice_get xs k ≡ Some x → f x ≡ after at k) → map f xs ≡ map capped (range_with_len at (length xs))
row_of f [] at each = refl
row_of f (x ∷ xs) at each = ap₂ ◌∷◌ (each 0 x refl ∙ ap capped (omega arith)) (row_of f xs (at + 1) (λ k y e. each (suc k) y e ∙ ap capped (omega arith)))

pub same_zipped : {A B C : Type 0} (R : A → B → Type 0) (f : A → C) (g : B → C) (xs : List A) (ys : List B) → AllZip R xs ys → ((x : A) (y : B) → R x y → f x ≡ g y) → map f xs ≡ map g ys
same_zipped R f g [] [] all each = refl
same_zipped R f g [] (y ∷ ys) all each = absurd all
same_zipped R f g (x ∷ xs) [] all each = absurd all
same_zipped R f g (x ∷ xs) (y ∷ ys) all each = ap₂ ◌∷◌ (each x y all.0) (same_zipped R f g xs ys all.1 each)

-- where places are in a row from 0 on, each cell is at its place
pub cells_occur : (number : Numbering) (all : List Entry) (l : LooseList) → map (λ (x : Entry). number x.0) all ≡ range_with_len 0 (length all) → l.cells ≡ cells_in all → All (λ (x : Entry). loose_at l (number x.0) ≡ x.1) all
cells_occur number all l row cells k x fits =
    let at : number (get_or all k x).0 ≡ k =
    sym (get_or-map (λ (e : Entry). number e.0) all k x 0 fits) ∙ ap (λ z. get_or z k 0) row ∙ get_or-range_with_len 0 (length all) k 0 fits ∙ omega arith in
    ap (loose_at l) at ∙ ap (λ c. get_or c k (cell.Const false)) cells ∙ get_or-map (λ (e : Entry). e.1) all k x (cell.Const false) fits
