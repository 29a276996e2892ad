-- The lines of a cell are met where its word has the bit of its gate, for the bits of the words that the cell reads.
use Rattle.std.proofs.Common.{◌≡◌, ◌∙◌, ◌⊎◌, inl, inr, ℕ, ◌<◌, ◌≤◌, Bool, List, [], ◌∷◌, ◌++◌, length, map, refl, sym, ap, subst}
use Rattle.std.proofs.lemmas.List.{get_or_past, length-map}
use Rattle.std.proofs.lemmas.List.Elements.{All-cons, All-head, All-nil, All-push}
use Rattle.bb_bits.specs.Numbers.{number_of}
use Rattle.bb_bits.specs.Tables.{TableBits, table_bit}
use Rattle.bb_lemmas.proofs.Maps.{map-twice}
use Rattle.bb_lemmas.proofs.Orders.{less_or_not}
use Rattle.bb_net.specs.declared.cell.Cell.{Cell}
use Rattle.bb_net.specs.declared.cell.Cell.TheVariants as cells
use Rattle.bb_net.specs.Netlists.{Pins, ReadsBefore, box_at}
use Rattle.bb_net.specs.Values.{FitBoxes, bit_of, gate, table_at, tabled_bit}
use Rattle.bb_net.specs.Flats.{FlatNet}
use Rattle.bb_net.specs.CutPoints.{state_texts}
use Rattle.std.specs.List.{slice_index_or}
use Rattle.bb_fill.specs.Words.{NetWord, Bit, Named, CellNet, cell_word, word_at}
use Rattle.bb_fill.specs.Lines.{Line, Gate, Buf}
use Rattle.bb_fill.specs.Trees.{tree_lines, tree_values}
use Rattle.bb_fill.specs.Filled.{cell_lines, first_choice, output_pin_words, pin_words}
use Rattle.bb_fill.specs.Laws.{AreMet, IsMet, TreesChoose, gate_bit}
use Rattle.bb_fill.proofs.Lists.{all_left, all_right}

-- a table has as many input pins as its box, and after the last box both have none
abbrev pub TablesFit : List TableBits → List Pins → Type 0
TablesFit tables boxes = (b : ℕ) → (table_at tables b).inputs ≡ length (box_at boxes b).ins

pub tables_fit : (tables : List TableBits) (boxes : List Pins) → FitBoxes tables boxes → TablesFit tables boxes
tables_fit tables boxes fit b = by (less_or_not b (length boxes))
  where
    by : (b < length boxes) ⊎ (length boxes ≤ b) → (table_at tables b).inputs ≡ length (box_at boxes b).ins
    by (inl within) = fit.inputs b within
    by (inr past) =
        let none : length tables ≤ b = subst (λ n. n ≤ b) (sym fit.count) past in
        ap (λ (t : TableBits). t.inputs) (get_or_past tables b (record { inputs = 0; outputs = 0; rows = [] }) none)
        ∙ sym (ap (λ (p : Pins). length p.ins) (get_or_past boxes b (record { ins = []; outs = [] }) past))

-- the bits of the words of the cells
abbrev pub word_bit : FlatNet → (NetWord → Bool) → ℕ → Bool
word_bit f bit k = bit (word_at f k)

-- the lines of the tree of an output pin
abbrev pub pin_tree : FlatNet → List TableBits → ℕ → ℕ → ℕ → List Line
pin_tree f tables k b p = tree_lines (pin_words f b) (first_choice f k) (output_pin_words tables b p)

-- the copy of its value
abbrev pub pin_copy : FlatNet → List TableBits → ℕ → ℕ → ℕ → Line
pin_copy f tables k b p = Gate Buf (CellNet k) (tree_values (pin_words f b) (first_choice f k) (output_pin_words tables b p))

module _ (f : FlatNet) (tables : List TableBits) (x : List Bool) (bit : NetWord → Bool) (choose : TreesChoose) (numbers : (b : Bool) → bit (Bit b) ≡ b) (fits : TablesFit tables f.net.boxes) where
  -- the bit of a cell's gate
  abbrev gate_of : Cell → Bool
  gate_of c = gate f.net.boxes x (tabled_bit tables) (word_bit f bit) c

  tree_bit : (k b p : ℕ) → AreMet bit (pin_tree f tables k b p) → gate_bit Buf (map bit (tree_values (pin_words f b) (first_choice f k) (output_pin_words tables b p))) ≡ gate_of (cells.BoxOut b p)
  tree_bit k b p met =
      let pins = map (word_at f) (box_at f.net.boxes b).ins in
      let found = choose bit numbers (table_at tables b) p (first_choice f k) pins (length-map (box_at f.net.boxes b).ins (word_at f) ∙ sym (fits b)) met in
      ap (λ l. gate_bit Buf (map bit l)) found.1 ∙ found.2 ∙ ap (λ l. table_bit (table_at tables b) (number_of l) p) (map-twice (word_at f) bit (box_at f.net.boxes b).ins)

  pub word_from_lines : ((i : ℕ) → i < f.net.inputs → bit (Named (slice_index_or (f.ins ++ state_texts f) i [])) ≡ bit_of x i)
      → (k : ℕ) (c : Cell) → ReadsBefore f.net.inputs f.net.boxes k c → AreMet bit (cell_lines f tables k c) → bit (cell_word f k c) ≡ gate_of c
  word_from_lines inputs k (cells.Const b) reads met = numbers b
  word_from_lines inputs k (cells.Input i) reads met = inputs i reads
  word_from_lines inputs k (cells.Not a) reads met = All-head (IsMet bit) _ [] met
  word_from_lines inputs k (cells.And a b) reads met = All-head (IsMet bit) _ [] met
  word_from_lines inputs k (cells.Or a b) reads met = All-head (IsMet bit) _ [] met
  word_from_lines inputs k (cells.Xor a b) reads met = All-head (IsMet bit) _ [] met
  word_from_lines inputs k (cells.Mux c t e) reads met = All-head (IsMet bit) _ [] met
  word_from_lines inputs k (cells.BoxOut b p) reads met =
      let copy = all_right (IsMet bit) (pin_tree f tables k b p) (pin_copy f tables k b p ∷ []) met in
      All-head (IsMet bit) (pin_copy f tables k b p) [] copy ∙ tree_bit k b p (all_left (IsMet bit) (pin_tree f tables k b p) (pin_copy f tables k b p ∷ []) met)

  pub lines_from_net : (k : ℕ) (c : Cell) → bit (CellNet k) ≡ gate_of c → ((b p : ℕ) → c ≡ cells.BoxOut b p → AreMet bit (pin_tree f tables k b p)) → AreMet bit (cell_lines f tables k c)
  lines_from_net k (cells.Const b) is trees = All-nil (IsMet bit)
  lines_from_net k (cells.Input i) is trees = All-nil (IsMet bit)
  lines_from_net k (cells.Not a) is trees = All-cons (IsMet bit) _ [] is (All-nil (IsMet bit))
  lines_from_net k (cells.And a b) is trees = All-cons (IsMet bit) _ [] is (All-nil (IsMet bit))
  lines_from_net k (cells.Or a b) is trees = All-cons (IsMet bit) _ [] is (All-nil (IsMet bit))
  lines_from_net k (cells.Xor a b) is trees = All-cons (IsMet bit) _ [] is (All-nil (IsMet bit))
  lines_from_net k (cells.Mux c t e) is trees = All-cons (IsMet bit) _ [] is (All-nil (IsMet bit))
  lines_from_net k (cells.BoxOut b p) is trees =
      let met = trees b p refl in
      All-push (IsMet bit) (pin_tree f tables k b p) (pin_copy f tables k b p) met (is ∙ sym (tree_bit k b p met))
