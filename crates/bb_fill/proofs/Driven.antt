-- What the lines drive: for a cell its choices and its net, for an output that is no register its text, and for a register its own.
use Rattle.std.proofs.Common.{◌≡◌, ◌∙◌, ◌⊎◌, inl, inr, ℕ, zero, suc, ◌+◌, ◌-◌, ◌*◌, ◌/◌, ◌^◌, ◌<◌, ◌≤◌, Bool, true, false, not, if◌then◌else◌, List, [], ◌∷◌, ◌++◌, append-nil, append_assoc, length, length-append, map, refl, sym, ap, ap₂, arith}
use Rattle.std.specs.Prelude.{Contains, slice_index, sum_by}
use Rattle.std.specs.List.{filter, flat_map, range_with_len}
use Rattle.std.proofs.lemmas.Grind.{flat_map-append}
use Rattle.std.proofs.lemmas.Nat.{pow_pos}
use Rattle.std.proofs.lemmas.List.{map-append}
use Rattle.std.proofs.lemmas.List.Concat.{length-flat_map}
use Rattle.std.proofs.lemmas.List.Elements.{Contains-append_cases}
use Rattle.std.proofs.lemmas.List.Folds.{flat_map-map}
use Rattle.std.proofs.lemmas.List.FromFn.{fill_by_all}
use Rattle.bb_bits.specs.Earlier.{has_name}
use Rattle.bb_bits.specs.Tables.{TableBits}
use Rattle.bb_lemmas.proofs.Members.{contains_cases, from_map, none_in_nil}
use Rattle.bb_lemmas.proofs.Ranges.{from_range}
use Rattle.bb_net.specs.declared.cell.Cell.{Cell}
use Rattle.bb_net.specs.declared.cell.Cell.TheVariants as cells
use Rattle.bb_net.specs.declared.flat.Reg.{Reg as Register}
use Rattle.bb_net.specs.CutPoints.{state_texts}
use Rattle.bb_net.specs.Flats.{FlatNet}
use Rattle.bb_net.specs.Netlists.{box_at, cell_at}
use Rattle.bb_net.specs.Values.{table_at}
use Rattle.bb_fill.specs.Words.{NetWord, Named, CellNet, ChoiceNet, word_at}
use Rattle.bb_fill.specs.Lines.{Line, Input, Output, Reg, Gate, Buf, End}
use Rattle.bb_fill.specs.Trees.{choice_nets, halved, tree_lines}
use Rattle.bb_fill.specs.Filled.{cell_lines, choice_count, filled_lines, first_choice, lines_of_cells, output_lines, output_text, output_pin_words, pin_words, register_lines}
use Rattle.bb_fill.specs.Sizes.{plain_outputs}
use Rattle.bb_fill.specs.Laws.{driven}
use Rattle.bb_fill.proofs.Choices.{flat_twice}
use Rattle.bb_fill.proofs.LineParts.{declarations, lines_of_outputs}
use Rattle.bb_fill.proofs.MetCells.{TablesFit, pin_copy, pin_tree}
use Rattle.bb_fill.proofs.SizeLemmas.{column-length, nets-length, pin-length, pins-length}
use Rattle.bb_fill.proofs.TextLists.{five_parts}
use Rattle.bb_fill.proofs.TreeLaws.{nets_from}

-- the choices of a tree

nets_next : (k n : ℕ) → choice_nets k (suc n) ≡ ChoiceNet k ∷ choice_nets (k + 1) n
nets_next k n = let at : k + 0 ≡ k = omega arith in ap₂ (λ j l. ChoiceNet j ∷ l) at (nets_from k 0 n)

nets-append : (k n m : ℕ) → choice_nets k n ++ choice_nets (k + n) m ≡ choice_nets k (n + m)
nets-append k zero m = let at : k + 0 ≡ k = omega arith in let all : m ≡ 0 + m = omega arith in ap₂ choice_nets at all
nets-append k (suc n) m =
    let at : k + suc n ≡ k + 1 + n = omega arith in
    let all : suc (n + m) ≡ suc n + m = omega arith in
    ap₂ ◌++◌ (nets_next k n) (ap (λ j. choice_nets j m) at) ∙ ap (λ l. ChoiceNet k ∷ l) (nets-append (k + 1) n m) ∙ sym (nets_next k (n + m)) ∙ ap (choice_nets k) all

pub halved-driven : (pin : NetWord) (k n : ℕ) (values : List NetWord) → length values ≡ 2 * n → flat_map driven (halved pin k values) ≡ choice_nets k n
halved-driven pin k zero [] long = refl
halved-driven pin k (suc n) [] long = absurd (omega (arith, long))
halved-driven pin k n (v ∷ []) long = absurd (omega (arith, long))
halved-driven pin k zero (low ∷ high ∷ values) long = absurd (omega (arith, long))
halved-driven pin k (suc n) (low ∷ high ∷ values) long = ap (λ l. ChoiceNet k ∷ l) (halved-driven pin (k + 1) n values (omega (arith, long))) ∙ sym (nets_next k n)

pub tree-driven : (pins : List NetWord) (k : ℕ) (values : List NetWord) → length values ≡ 2 ^ length pins → flat_map driven (tree_lines pins k values) ≡ choice_nets k (2 ^ length pins - 1)
tree-driven [] k values long = refl
tree-driven (pin ∷ pins) k values long =
    let n = length values / 2 in
    let twice : 2 ^ suc (length pins) ≡ 2 * 2 ^ length pins = omega arith in
    let half : n ≡ 2 ^ length pins = omega (arith, long, twice) in
    let even : length values ≡ 2 * n = omega (arith, long, twice, half) in
    let some : 0 < 2 ^ length pins = pow_pos (length pins) in
    let count : n + (2 ^ length pins - 1) ≡ 2 ^ suc (length pins) - 1 = omega (arith, half, twice, some) in
    flat_map-append driven (halved pin k values) (tree_lines pins (k + n) (choice_nets k n))
    ∙ ap₂ ◌++◌ (halved-driven pin k n values even) (tree-driven pins (k + n) (choice_nets k n) (nets-length k n ∙ half))
    ∙ nets-append k n (2 ^ length pins - 1) ∙ ap (choice_nets k) count

-- the nets of a cell
abbrev pub nets_of : FlatNet → ℕ → Cell → List NetWord
nets_of f k (cells.Const b) = []
nets_of f k (cells.Input i) = []
nets_of f k cell = choice_nets (first_choice f k) (choice_count f.net.boxes cell) ++ CellNet k ∷ []

-- those of all cells
abbrev pub cell_nets : FlatNet → List NetWord
cell_nets f = flat_map (λ k. nets_of f k (cell_at f.net.cells k)) (range_with_len 0 (length f.net.cells))

-- the texts that are driven: those of outputs that are no registers, and those of registers
abbrev pub driven_texts : FlatNet → List (List ℕ)
driven_texts f = plain_outputs f ++ state_texts f

-- a net of a cell is its own, or one of its choices
abbrev pub IsNetOf : FlatNet → ℕ → Cell → NetWord → Type 0
IsNetOf f k c word = (word ≡ CellNet k) ⊎ ((m : ℕ) × (word ≡ ChoiceNet m) × (first_choice f k ≤ m) × (m < first_choice f k + choice_count f.net.boxes c))

pub from_nets : (f : FlatNet) (k : ℕ) (c : Cell) (word : NetWord) → Contains (nets_of f k c) word → IsNetOf f k c word
from_nets f k c word has = by c has
  where
    some : (d : Cell) → Contains (choice_nets (first_choice f k) (choice_count f.net.boxes d)) word ⊎ Contains (CellNet k ∷ []) word → IsNetOf f k d word
    some d (inl choice) =
        let at = from_map (λ i. ChoiceNet (first_choice f k + i)) (range_with_len 0 (choice_count f.net.boxes d)) word choice in
        let within = from_range 0 (choice_count f.net.boxes d) at.0 at.1 in
        inr (first_choice f k + at.0, sym at.2, omega arith, omega (arith, within.1))
    some d (inr own) = last (contains_cases (CellNet k) [] word own)
      where
        last : (CellNet k ≡ word) ⊎ Contains [] word → IsNetOf f k d word
        last (inl is) = inl (sym is)
        last (inr none) = absurd (none_in_nil word none)

    both : (d : Cell) → Contains (choice_nets (first_choice f k) (choice_count f.net.boxes d) ++ CellNet k ∷ []) word → IsNetOf f k d word
    both d h = some d (Contains-append_cases (choice_nets (first_choice f k) (choice_count f.net.boxes d)) (CellNet k ∷ []) word h)

    by : (d : Cell) → Contains (nets_of f k d) word → IsNetOf f k d word
    by (cells.Const b) h = absurd (none_in_nil word h)
    by (cells.Input i) h = absurd (none_in_nil word h)
    by (cells.Not a) h = both (cells.Not a) h
    by (cells.And a b) h = both (cells.And a b) h
    by (cells.Or a b) h = both (cells.Or a b) h
    by (cells.Xor a b) h = both (cells.Xor a b) h
    by (cells.Mux a t e) h = both (cells.Mux a t e) h
    by (cells.BoxOut b p) h = both (cells.BoxOut b p) h

module _ (f : FlatNet) (tables : List TableBits) (fits : TablesFit tables f.net.boxes) where
  pins_rows : (b p : ℕ) → length (output_pin_words tables b p) ≡ 2 ^ length (pin_words f b)
  pins_rows b p = column-length (table_at tables b) p ∙ ap (λ n. 2 ^ n) (fits b ∙ sym (pins-length f b))

  pub cell-driven : (k : ℕ) (c : Cell) → flat_map driven (cell_lines f tables k c) ≡ nets_of f k c
  cell-driven k (cells.Const b) = refl
  cell-driven k (cells.Input i) = refl
  cell-driven k (cells.Not a) = refl
  cell-driven k (cells.And a b) = refl
  cell-driven k (cells.Or a b) = refl
  cell-driven k (cells.Xor a b) = refl
  cell-driven k (cells.Mux c t e) = refl
  cell-driven k (cells.BoxOut b p) =
      flat_map-append driven (pin_tree f tables k b p) (pin_copy f tables k b p ∷ [])
      ∙ ap (λ l. l ++ CellNet k ∷ []) (tree-driven (pin_words f b) (first_choice f k) (output_pin_words tables b p) (pins_rows b p) ∙ ap (λ n. choice_nets (first_choice f k) (2 ^ n - 1)) (pins-length f b))

  -- there is a net for each line
  nets_of-length : (k : ℕ) (c : Cell) → length (nets_of f k c) ≡ length (cell_lines f tables k c)
  nets_of-length k (cells.Const b) = refl
  nets_of-length k (cells.Input i) = refl
  nets_of-length k (cells.Not a) = refl
  nets_of-length k (cells.And a b) = refl
  nets_of-length k (cells.Or a b) = refl
  nets_of-length k (cells.Xor a b) = refl
  nets_of-length k (cells.Mux c t e) = refl
  nets_of-length k (cells.BoxOut b p) =
      let n = length (box_at f.net.boxes b).ins in
      let some : 0 < 2 ^ n = pow_pos n in
      let rows : 2 ^ (table_at tables b).inputs ≡ 2 ^ n = ap (λ m. 2 ^ m) (fits b) in
      let nets = choice_nets (first_choice f k) (2 ^ n - 1) in
      omega (arith, some, rows, pin-length f tables k b p (fits b), nets-length (first_choice f k) (2 ^ n - 1), length-append nets (CellNet k ∷ []))

  pub cell_nets-length : length (cell_nets f) ≡ length (lines_of_cells f tables)
  cell_nets-length =
      let numbers = range_with_len 0 (length f.net.cells) in
      length-flat_map (λ k. nets_of f k (cell_at f.net.cells k)) numbers ∙ ap (λ g. sum_by g numbers) (λ i k. nets_of-length k (cell_at f.net.cells k) i)
      ∙ sym (length-flat_map (λ k. cell_lines f tables k (cell_at f.net.cells k)) numbers)

  pub cells-driven : flat_map driven (lines_of_cells f tables) ≡ cell_nets f
  cells-driven =
      let numbers = range_with_len 0 (length f.net.cells) in
      sym (flat_twice driven (λ k. cell_lines f tables k (cell_at f.net.cells k)) numbers) ∙ ap (λ g. flat_map g numbers) (λ i k. cell-driven k (cell_at f.net.cells k) i)

  -- an output is driven where it is no register

  abbrev plain_net : List ℕ → List NetWord
  plain_net text = if has_name text (state_texts f) then [] else Named text ∷ []

  output-driven : (o : ℕ) → flat_map driven (output_lines f o) ≡ plain_net (output_text f o)
  output-driven o = by (has_name (output_text f o) (state_texts f))
    where
      by : (b : Bool) → flat_map driven (if b then [] else Gate Buf (Named (output_text f o)) (word_at f (slice_index f.net.outs o) ∷ []) ∷ []) ≡ (if b then [] else Named (output_text f o) ∷ [])
      by true = refl
      by false = refl

  plain_nets : (texts : List (List ℕ)) → flat_map plain_net texts ≡ map Named (filter (λ text. not (has_name text (state_texts f))) texts)
  plain_nets [] = refl
  plain_nets (text ∷ texts) = by (has_name text (state_texts f)) (plain_nets texts)
    where
      rest : List (List ℕ)
      rest = filter (λ t. not (has_name t (state_texts f))) texts

      by : (b : Bool) → flat_map plain_net texts ≡ map Named (filter (λ t. not (has_name t (state_texts f))) texts)
          → (if b then [] else Named text ∷ []) ++ flat_map plain_net texts ≡ map Named (if not b then text ∷ filter (λ t. not (has_name t (state_texts f))) texts else filter (λ t. not (has_name t (state_texts f))) texts)
      by true e = e
      by false e = ap (λ l. Named text ∷ l) e

  outputs-driven : flat_map driven (lines_of_outputs f) ≡ map Named (plain_outputs f)
  outputs-driven =
      let numbers = range_with_len 0 (length f.outs) in
      sym (flat_twice driven (output_lines f) numbers) ∙ ap (λ g. flat_map g numbers) (λ i o. output-driven o i) ∙ sym (flat_map-map plain_net (output_text f) numbers)
      ∙ ap (flat_map plain_net) (sym (fill_by_all (output_text f) f.outs (length f.outs) [] refl (λ k within. refl))) ∙ plain_nets f.outs

  -- declarations drive nothing, and registers are driven

  none-driven : (g : List ℕ → Line) → ((name : List ℕ) → driven (g name) ≡ []) → (names : List (List ℕ)) → flat_map driven (map g names) ≡ []
  none-driven g none [] = refl
  none-driven g none (name ∷ names) = ap₂ ◌++◌ (none name) (none-driven g none names)

  registers-driven : (r : ℕ) (registers : List Register) → flat_map driven (register_lines f r registers) ≡ map Named (map (λ q. q.text) registers)
  registers-driven r [] = refl
  registers-driven r (register ∷ registers) = ap (λ l. Named register.text ∷ l) (registers-driven (r + 1) registers)

  pub declarations-driven : flat_map driven (declarations f) ≡ []
  declarations-driven =
      flat_map-append driven (map Input f.ins ++ map Output f.outs) (map Reg (state_texts f))
      ∙ ap₂ ◌++◌ (flat_map-append driven (map Input f.ins) (map Output f.outs) ∙ ap₂ ◌++◌ (none-driven Input (λ n. refl) f.ins) (none-driven Output (λ n. refl) f.outs)) (none-driven Reg (λ n. refl) (state_texts f))

  pub lines-driven : flat_map driven (filled_lines f tables) ≡ cell_nets f ++ map Named (driven_texts f)
  lines-driven =
      five_parts driven (declarations f) (lines_of_cells f tables) (lines_of_outputs f) (register_lines f 0 f.regs) (End ∷ [])
      ∙ append-nil (flat_map driven (declarations f) ++ flat_map driven (lines_of_cells f tables) ++ flat_map driven (lines_of_outputs f) ++ flat_map driven (register_lines f 0 f.regs))
      ∙ ap₂ ◌++◌ (ap₂ ◌++◌ (ap₂ ◌++◌ declarations-driven cells-driven) outputs-driven) (registers-driven 0 f.regs)
      ∙ append_assoc (cell_nets f) (map Named (plain_outputs f)) (map Named (state_texts f)) ∙ ap (λ l. cell_nets f ++ l) (sym (map-append Named (plain_outputs f) (state_texts f)))
