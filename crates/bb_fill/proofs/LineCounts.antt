-- Cells have no more lines than one each, but for constants and inputs, and one for each choice. A choice belongs to an output pin of a box,
-- and each cell of a pin is at one pin at least, so the choices of all cells are no more than those of all pins.
use Rattle.std.proofs.Common.{◌≡◌, ◌∙◌, ◌⊎◌, inl, inr, ℕ, zero, suc, ◌+◌, ◌-◌, ◌*◌, ◌^◌, ◌<◌, ◌≤◌, false, true, List, [], ◌∷◌, ◌++◌, drop, length, length-append, map, take, refl, sym, ap, subst, arith}
use Rattle.std.specs.Prelude.{Contains, Some, sum_by}
use Rattle.std.specs.List.{flat_map, range_with_len}
use Rattle.std.proofs.lemmas.List.{get_or_default, get_or_past, length-map, take-append-drop}
use Rattle.std.proofs.lemmas.List.Concat.{length-flat_map}
use Rattle.std.proofs.lemmas.List.Elements.{Contains-append_cases, Contains-append_left, Contains-append_right}
use Rattle.std.proofs.lemmas.List.Folds.{fold-map}
use Rattle.std.proofs.lemmas.List.FromFn.{fill_by_all}
use Rattle.std.proofs.lemmas.List.Sums.{sum_by-append, sum_by-cons, sum_by-le, sum_by-le-sum_by}
use Rattle.std.proofs.lemmas.Nat.{pow_pos}
use Rattle.std.proofs.lemmas.Option.{slice_get-get_or}
use Rattle.bb_bits.specs.Tables.{TableBits}
use Rattle.bb_lemmas.proofs.Members.{all_from, contains_cases, contains_here, contains_there, into_flat}
use Rattle.bb_lemmas.proofs.Orders.{less_or_not}
use Rattle.bb_lemmas.proofs.Places.{split}
use Rattle.bb_lemmas.proofs.Ranges.{from_range, length-range, range_there}
use Rattle.bb_net.specs.declared.cell.Cell.{Cell}
use Rattle.bb_net.specs.declared.cell.Cell.TheVariants as cells
use Rattle.bb_net.specs.Flats.{FlatNet}
use Rattle.bb_net.specs.Netlists.{IsPinAt, Pins, box_at, cell_at, first_cells}
use Rattle.bb_net.specs.Values.{table_at}
use Rattle.bb_fill.specs.Filled.{cell_lines, choice_count, lines_of_cells}
use Rattle.bb_fill.specs.Laws.{IsReady, LinesAreFew, tree_choices}
use Rattle.bb_fill.proofs.MetCells.{TablesFit, tables_fit}
use Rattle.bb_fill.proofs.SizeLemmas.{pin-length}

-- sums

sum-both : {A : Type 0} (g h : A → ℕ) (xs : List A) → sum_by (λ x. g x + h x) xs ≡ sum_by g xs + sum_by h xs
sum-both g h [] = refl
sum-both g h (x ∷ xs) = omega (arith, sum_by-cons (λ y. g y + h y) x xs, sum_by-cons g x xs, sum_by-cons h x xs, sum-both g h xs)

-- a sum over lists one after another is within the sum of bounds of the lists
sum-flat : {A B : Type 0} (w : B → ℕ) (g : A → List B) (c : A → ℕ) (xs : List A) → ((x : A) → Contains xs x → sum_by w (g x) ≤ c x) → sum_by w (flat_map g xs) ≤ sum_by c xs
sum-flat w g c [] each = omega arith
sum-flat w g c (x ∷ xs) each =
    omega (arith, sum_by-append w (g x) (flat_map g xs), sum_by-cons c x xs, each x (contains_here x xs), sum-flat w g c xs (λ y has. each y (contains_there x xs y has)))

-- an element that is not this one is in the list without it
without : (before after : List ℕ) (a k : ℕ) → a < k → Contains (before ++ a ∷ after) k → Contains (before ++ after) k
without before after a k less has = by (Contains-append_cases before (a ∷ after) k has)
  where
    later : (a ≡ k) ⊎ Contains after k → Contains (before ++ after) k
    later (inl same) = absurd (omega (arith, same, less))
    later (inr there) = Contains-append_right before after k there

    by : Contains before k ⊎ Contains (a ∷ after) k → Contains (before ++ after) k
    by (inl there) = Contains-append_left before after k there
    by (inr there) = later (contains_cases a after k there)

-- where each of some numbers that counts is in a list, their sum is within that of the list
sum-within : (w : ℕ → ℕ) (a n : ℕ) (ks : List ℕ) → ((k : ℕ) → a ≤ k → k < a + n → 0 < w k → Contains ks k) → sum_by w (range_with_len a n) ≤ sum_by w ks
sum-within w a zero ks each = omega arith
sum-within w a (suc n) ks each = by (less_or_not 0 (w a)) (λ others there. sum-within w (a + 1) n others there)
  where
    IsWithin : List ℕ → Type 0
    IsWithin others = ((k : ℕ) → a + 1 ≤ k → k < a + 1 + n → 0 < w k → Contains others k) → sum_by w (range_with_len (a + 1) n) ≤ sum_by w others

    by : (0 < w a) ⊎ (w a ≤ 0) → ((others : List ℕ) → IsWithin others) → sum_by w (range_with_len a (suc n)) ≤ sum_by w ks
    by (inr none) within =
        let rest = within ks (λ k from below. each k (omega (arith, from)) (omega (arith, below))) in
        omega (arith, none, rest, sum_by-cons w a (range_with_len (a + 1) n))
    by (inl some) within =
        let there = each a (omega arith) (omega arith) some in
        let before = take there.0 ks in
        let after = drop (suc there.0) ks in
        let whole : ks ≡ before ++ a ∷ after = split ks there.0 a (slice_get-get_or ks there.0 a there.1 ∙ ap Some there.2) in
        let rest = within (before ++ after) (λ k from below positive.
        without before after a k (omega (arith, from)) (subst (λ l. Contains l k) whole (each k (omega (arith, from)) (omega (arith, below)) positive)))
        in
        omega (arith, ap (sum_by w) whole, sum_by-append w before (a ∷ after), sum_by-append w before after, sum_by-cons w a after, rest, sum_by-cons w a (range_with_len (a + 1) n))

-- the line of a cell, besides choices

abbrev own_line : Cell → ℕ
own_line (cells.Const b) = 0
own_line (cells.Input i) = 0
own_line (cells.Not a) = 1
own_line (cells.And a b) = 1
own_line (cells.Or a b) = 1
own_line (cells.Xor a b) = 1
own_line (cells.Mux c t e) = 1
own_line (cells.BoxOut b p) = 1

one_line : (c : Cell) → own_line c ≤ 1
one_line (cells.Const b) = omega arith
one_line (cells.Input i) = omega arith
one_line (cells.Not a) = omega arith
one_line (cells.And a b) = omega arith
one_line (cells.Or a b) = omega arith
one_line (cells.Xor a b) = omega arith
one_line (cells.Mux c t e) = omega arith
one_line (cells.BoxOut b p) = omega arith

inputs-none : (ns : List ℕ) → sum_by own_line (map cells.Input ns) ≡ 0
inputs-none [] = refl
inputs-none (n ∷ ns) = omega (arith, sum_by-cons own_line (cells.Input n) (map cells.Input ns), inputs-none ns)

module _ (f : FlatNet) (tables : List TableBits) (fits : TablesFit tables f.net.boxes) where
  cell_lines-few : (k : ℕ) (c : Cell) → length (cell_lines f tables k c) ≤ own_line c + choice_count f.net.boxes c
  cell_lines-few k (cells.Const b) = omega arith
  cell_lines-few k (cells.Input i) = omega arith
  cell_lines-few k (cells.Not a) = omega arith
  cell_lines-few k (cells.And a b) = omega arith
  cell_lines-few k (cells.Or a b) = omega arith
  cell_lines-few k (cells.Xor a b) = omega arith
  cell_lines-few k (cells.Mux c t e) = omega arith
  cell_lines-few k (cells.BoxOut b p) =
      let n = length (box_at f.net.boxes b).ins in
      let some : 0 < 2 ^ n = pow_pos n in
      let rows : 2 ^ (table_at tables b).inputs ≡ 2 ^ n = ap (λ m. 2 ^ m) (fits b) in
      omega (arith, some, rows, pin-length f tables k b p (fits b))

module _ (f : FlatNet) (tables : List TableBits) (ready : IsReady f tables) where
  abbrev numbers : List ℕ
  numbers = range_with_len 0 (length f.net.cells)

  abbrev box_numbers : List ℕ
  box_numbers = range_with_len 0 (length f.net.boxes)

  -- cells and boxes by their numbers
  of_cells : (g : Cell → ℕ) → sum_by g f.net.cells ≡ sum_by (λ k. g (cell_at f.net.cells k)) numbers
  of_cells g = ap (sum_by g) (fill_by_all (cell_at f.net.cells) f.net.cells (length f.net.cells) (cells.Const false) refl (λ k within. refl)) ∙ fold-map (λ a c. a + g c) (cell_at f.net.cells) 0 numbers

  of_boxes : (g : Pins → ℕ) → sum_by g f.net.boxes ≡ sum_by (λ b. g (box_at f.net.boxes b)) box_numbers
  of_boxes g =
      ap (sum_by g) (fill_by_all (box_at f.net.boxes) f.net.boxes (length f.net.boxes) (record { ins = []; outs = [] }) refl (λ b within. refl))
      ∙ fold-map (λ a pins. a + g pins) (box_at f.net.boxes) 0 box_numbers

  lines_within : length (lines_of_cells f tables) ≤ sum_by own_line f.net.cells + sum_by (choice_count f.net.boxes) f.net.cells
  lines_within =
      let of_cell = λ (k : ℕ). own_line (cell_at f.net.cells k) + choice_count f.net.boxes (cell_at f.net.cells k) in
      let each = sum_by-le-sum_by (λ k. length (cell_lines f tables k (cell_at f.net.cells k))) of_cell numbers (λ k. cell_lines-few f tables (tables_fit tables f.net.boxes ready.fit) k (cell_at f.net.cells k)) in
      omega (
        arith,
        length-flat_map (λ k. cell_lines f tables k (cell_at f.net.cells k)) numbers,
        each,
        of_cells (λ c. own_line c + choice_count f.net.boxes c),
        sum-both own_line (choice_count f.net.boxes) f.net.cells,
      )

  -- constants and inputs come first
  own_within : sum_by own_line f.net.cells + (f.net.inputs + 2) ≤ length f.net.cells
  own_within =
      let n = f.net.inputs + 2 in
      let inputs = map cells.Input (range_with_len 0 f.net.inputs) in
      let constants : List Cell = cells.Const false ∷ cells.Const true ∷ [] in
      let rest = drop n f.net.cells in
      let whole : (constants ++ inputs) ++ rest ≡ f.net.cells = ap (λ l. l ++ rest) (sym ready.flat.net.prefix) ∙ take-append-drop n f.net.cells in
      omega (
        arith,
        ap (sum_by own_line) whole,
        ap length whole,
        sum_by-append own_line (constants ++ inputs) rest,
        sum_by-append own_line constants inputs,
        inputs-none (range_with_len 0 f.net.inputs),
        sum_by-le own_line 1 rest (all_from (λ c. own_line c ≤ 1) rest (λ c has. one_line c)),
        length-append (constants ++ inputs) rest,
        length-append constants inputs,
        length-map (range_with_len 0 f.net.inputs) cells.Input,
        length-range 0 f.net.inputs,
      )

  -- choices

  abbrev choices_at : ℕ → ℕ
  choices_at k = choice_count f.net.boxes (cell_at f.net.cells k)

  abbrev pins_at : ℕ → List ℕ
  pins_at b = (box_at f.net.boxes b).outs

  -- a cell with choices is at an output pin
  pin_there : (k : ℕ) → k < length f.net.cells → 0 < choices_at k → Contains (flat_map pins_at box_numbers) k
  pin_there k within some = by (cell_at f.net.cells k) refl some
    where
      at_pin : (b p : ℕ) → IsPinAt f.net.boxes b p k → (b < length f.net.boxes) ⊎ (length f.net.boxes ≤ b) → Contains (flat_map pins_at box_numbers) k
      at_pin b p pin (inr past) =
          let none : length (pins_at b) ≡ 0 = ap (λ (q : Pins). length q.outs) (get_or_past f.net.boxes b (record { ins = []; outs = [] }) past) in
          absurd (omega (arith, pin.0, none))
      at_pin b p pin (inl there) =
          into_flat pins_at box_numbers b k (range_there 0 (length f.net.boxes) b (omega arith) (omega (arith, there))) (p, pin.0, get_or_default (pins_at b) p k 0 pin.0 ∙ pin.1)

      by : (c : Cell) → cell_at f.net.cells k ≡ c → 0 < choice_count f.net.boxes c → Contains (flat_map pins_at box_numbers) k
      by (cells.Const b) is more = absurd (omega (arith, more))
      by (cells.Input i) is more = absurd (omega (arith, more))
      by (cells.Not a) is more = absurd (omega (arith, more))
      by (cells.And a b) is more = absurd (omega (arith, more))
      by (cells.Or a b) is more = absurd (omega (arith, more))
      by (cells.Xor a b) is more = absurd (omega (arith, more))
      by (cells.Mux c t e) is more = absurd (omega (arith, more))
      by (cells.BoxOut b p) is more = at_pin b p (ready.flat.net.listed k b p within is) (less_or_not b (length f.net.boxes))

  -- the pins of a box have the same number each
  pins_within : (b : ℕ) → sum_by choices_at (pins_at b) ≤ tree_choices (box_at f.net.boxes b)
  pins_within b = sum_by-le choices_at (2 ^ length (box_at f.net.boxes b).ins - 1) (pins_at b) (all_from (λ k. choices_at k ≤ 2 ^ length (box_at f.net.boxes b).ins - 1) (pins_at b) each)
    where
      each : (k : ℕ) → Contains (pins_at b) k → choices_at k ≤ 2 ^ length (box_at f.net.boxes b).ins - 1
      each k (p, lt, e) =
          let is = (ready.flat.net.driven b p k (lt, get_or_default (pins_at b) p 0 k lt ∙ e)).1 in
          let same : choices_at k ≡ choice_count f.net.boxes (cells.BoxOut b p) = ap (choice_count f.net.boxes) is in
          omega (arith, same)

  choices_within_pins : sum_by (choice_count f.net.boxes) f.net.cells ≤ sum_by tree_choices f.net.boxes
  choices_within_pins =
      let listed = sum-within choices_at 0 (length f.net.cells) (flat_map pins_at box_numbers) (λ k from below. pin_there k (omega (arith, below))) in
      let boxes = sum-flat choices_at pins_at (λ b. tree_choices (box_at f.net.boxes b)) box_numbers (λ b has. pins_within b) in
      omega (arith, of_cells (choice_count f.net.boxes), listed, boxes, of_boxes tree_choices)

pub lines_are_few : LinesAreFew
lines_are_few f tables ready = omega (arith, lines_within f tables ready, own_within f tables ready, choices_within_pins f tables ready)
