-- How many lines there are.
use Rattle.std.proofs.Common.{◌≡◌, ◌∙◌, ℕ, zero, suc, ◌+◌, ◌*◌, ◌/◌, ◌^◌, ◌≤◌, Bool, true, false, List, [], ◌∷◌, ◌++◌, length, length-append, map, refl, sym, ap, arith}
use Rattle.std.specs.List.{filter, flat_map, range_with_len}
use Rattle.std.proofs.lemmas.Grind.{flat_map-append}
use Rattle.std.proofs.lemmas.List.{append-nil, length-map, length-reverse}
use Rattle.std.proofs.lemmas.List.FromFn.{length-range_with_len}
use Rattle.bb_lemmas.proofs.Ranges.{range_last_from_zero}
use Rattle.bb_bits.specs.Tables.{TableBits, table_bit, column}
use Rattle.bb_net.specs.declared.cell.Cell.TheVariants.{BoxOut}
use Rattle.bb_net.specs.Netlists.{box_at}
use Rattle.bb_net.specs.Values.{table_at}
use Rattle.bb_net.specs.Flats.{FlatNet}
use Rattle.bb_fill.specs.Words.{NetWord, Bit, ChoiceNet, CellNet, word_at}
use Rattle.bb_fill.specs.Lines.{Line, Gate, Buf}
use Rattle.bb_fill.specs.Trees.{halved, choice_nets, tree_lines, tree_values}
use Rattle.bb_fill.specs.Filled.{cell_lines, choice_count, first_choice, lines_of_cells, output_pin_words, pin_words}
use Rattle.bb_fill.specs.Sizes.{filled_cell_count, makes_cell, net_count}

halved-length : (pin : NetWord) (k n : ℕ) (values : List NetWord) → length values ≡ 2 * n → length (halved pin k values) ≡ n
halved-length pin k n [] long = omega (arith, long)
halved-length pin k n (v ∷ []) long = absurd (omega (arith, long))
halved-length pin k zero (low ∷ high ∷ values) long = absurd (omega (arith, long))
halved-length pin k (suc n) (low ∷ high ∷ values) long = let rest = halved-length pin (k + 1) n values (omega (arith, long)) in omega (arith, rest)

pub nets-length : (k n : ℕ) → length (choice_nets k n) ≡ n
nets-length k n = length-map (range_with_len 0 n) (λ i. ChoiceNet (k + i)) ∙ length-range_with_len 0 n

-- a tree has a choice less than values
pub tree-length : (pins : List NetWord) (k : ℕ) (values : List NetWord) → length values ≡ 2 ^ length pins → length (tree_lines pins k values) + 1 ≡ 2 ^ length pins
tree-length [] k values long = omega arith
tree-length (pin ∷ pins) k values long =
    let twice : 2 ^ suc (length pins) ≡ 2 * 2 ^ length pins = omega arith in
    let even : length values ≡ 2 * 2 ^ length pins = long ∙ twice in
    let half : length values / 2 ≡ 2 ^ length pins = omega (arith, even) in
    let first = halved-length pin k (2 ^ length pins) values even in
    let rest = tree-length pins (k + length values / 2) (choice_nets k (length values / 2)) (nets-length k (length values / 2) ∙ half) in
    omega (arith, twice, first, rest, length-append (halved pin k values) (tree_lines pins (k + length values / 2) (choice_nets k (length values / 2))))

pub column-length : (t : TableBits) (p : ℕ) → length (map Bit (column t p)) ≡ 2 ^ t.inputs
column-length t p = length-map (column t p) Bit ∙ length-map (range_with_len 0 (2 ^ t.inputs)) (λ row. table_bit t row p) ∙ length-range_with_len 0 (2 ^ t.inputs)

pub pins-length : (f : FlatNet) (b : ℕ) → length (pin_words f b) ≡ length (box_at f.net.boxes b).ins
pins-length f b = length-reverse (map (word_at f) (box_at f.net.boxes b).ins) ∙ length-map (box_at f.net.boxes b).ins (word_at f)

-- an output pin has a line for each row
pub pin-length : (f : FlatNet) (tables : List TableBits) (k b p : ℕ) → (table_at tables b).inputs ≡ length (box_at f.net.boxes b).ins → length (cell_lines f tables k (BoxOut b p)) ≡ 2 ^ (table_at tables b).inputs
pin-length f tables k b p fit =
    let pins = pin_words f b in
    let long : 2 ^ length pins ≡ 2 ^ (table_at tables b).inputs = ap (λ n. 2 ^ n) (pins-length f b ∙ sym fit) in
    let tree = tree-length pins (first_choice f k) (output_pin_words tables b p) (column-length (table_at tables b) p ∙ sym long) in
    omega (arith, long, tree, length-append (tree_lines pins (first_choice f k) (output_pin_words tables b p)) (Gate Buf (CellNet k) (tree_values pins (first_choice f k) (output_pin_words tables b p)) ∷ []))

pub pin_choices : (f : FlatNet) (tables : List TableBits) (k b p : ℕ) → (table_at tables b).inputs ≡ length (box_at f.net.boxes b).ins → choice_count f.net.boxes (BoxOut b p) ≤ 2 ^ (table_at tables b).inputs
pin_choices f tables k b p fit = let same : 2 ^ (table_at tables b).inputs ≡ 2 ^ length (box_at f.net.boxes b).ins = ap (λ n. 2 ^ n) fit in omega (arith, same)

-- lines of one number more
pub length_more : (g : ℕ → List Line) (k : ℕ) → length (flat_map g (range_with_len 0 (k + 1))) ≡ length (flat_map g (range_with_len 0 k)) + length (g k)
length_more g k =
    ap (λ l. length (flat_map g l)) (range_last_from_zero k)
    ∙ ap length (flat_map-append g (range_with_len 0 k) (k ∷ []) ∙ ap (λ l. flat_map g (range_with_len 0 k) ++ l) (append-nil (g k)))
    ∙ length-append (flat_map g (range_with_len 0 k)) (g k)

-- of some lines, those that make a cell are no more
pub filter-few : {X : Type 0} (p : X → Bool) (xs : List X) → length (filter p xs) ≤ length xs
filter-few p [] = omega arith
filter-few p (x ∷ xs) = by (filter-few p xs) (p x) refl
  where
    by : length (filter p xs) ≤ length xs → (b : Bool) → p x ≡ b → length (filter p (x ∷ xs)) ≤ length (x ∷ xs)
    by rest true e = rw e (omega (arith, rest))
    by rest false e = rw e (omega (arith, rest))

-- no more cells are made than there are nets, but for two
pub cells_few : (f : FlatNet) (tables : List TableBits) → filled_cell_count f tables ≤ net_count f tables + 2
cells_few f tables = omega (arith, filter-few makes_cell (lines_of_cells f tables))
