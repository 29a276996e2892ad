-- At each vector some bits meet the lines: those of the netlist, and those of the choices of its trees.
use Rattle.std.proofs.Common.{◌≡◌, ◌∙◌, ◌⊎◌, inl, inr, ℕ, ◌+◌, ◌^◌, ◌<◌, ◌≤◌, Bool, true, false, if◌then◌else◌, List, [], ◌∷◌, ◌++◌, length, map, reverse, take, refl, sym, ap, ap₂, subst, arith, length-append}
use Rattle.std.specs.Prelude.{slice_index, sum_by}
use Rattle.std.specs.List.{flat_map, range_with_len, slice_index_or}
use Rattle.std.proofs.lemmas.List.{get_or_past, length-map, length-reverse}
use Rattle.std.proofs.lemmas.List.Concat.{get_or-flat_map, length-flat_map}
use Rattle.std.proofs.lemmas.List.Elements.{All-append, All-cons, All-map, All-nil, Contains-get_or}
use Rattle.std.proofs.lemmas.List.FromFn.{length-range_with_len}
use Rattle.bb_bits.specs.Earlier.{has_name}
use Rattle.bb_bits.specs.Tables.{TableBits, table_bit, column}
use Rattle.bb_lemmas.proofs.Maps.{map-twice, reverse-map}
use Rattle.bb_lemmas.proofs.Orders.{less_or_not}
use Rattle.bb_net.specs.declared.cell.Cell.{Cell}
use Rattle.bb_net.specs.declared.cell.Cell.TheVariants as cells
use Rattle.bb_net.specs.declared.flat.Reg.{Reg as Register}
use Rattle.bb_net.specs.Equivalence.{out_bit}
use Rattle.bb_net.specs.CutPoints.{state_texts}
use Rattle.bb_net.specs.Flats.{FlatNet}
use Rattle.bb_net.specs.Netlists.{IsOrdered, Netlist, ReadsBefore, box_at, cell_at}
use Rattle.bb_net.specs.Values.{IsValue, bit_of, flat_with, gate, table_at, tabled_bit, value_of}
use Rattle.bb_fill.specs.Words.{NetWord, Bit, Named, CellNet, ChoiceNet, cell_word, word_at}
use Rattle.bb_fill.specs.Lines.{Module, Input, Output, Reg, Gate, Buf}
use Rattle.bb_fill.specs.Filled.{cell_lines, choice_count, filled_lines, first_choice, output_lines, output_text, output_pin_words, pin_words, register_line, register_lines}
use Rattle.bb_fill.specs.Laws.{AreMet, GivesBitsOf, IsMet, IsReady, LinesCanBeMet, TreesChoose}
use Rattle.bb_fill.proofs.ChoiceBits.{choice_bits, choice_bits-length, tree_met}
use Rattle.bb_fill.proofs.LineBits.{word_past}
use Rattle.bb_fill.proofs.LineParts.{all_parts, declarations}
use Rattle.bb_fill.proofs.MetCells.{TablesFit, lines_from_net, pin_tree, tables_fit, word_bit}
use Rattle.bb_fill.proofs.NetNames.{bit_called, called-at, called-other, plain_apart, ports_apart}
use Rattle.bb_fill.proofs.SizeLemmas.{column-length, pins-length}
use Rattle.bb_fill.proofs.TreeLaws.{bits_are}

-- a netlist has a value
abbrev pub ValuesExist : Type 0
ValuesExist = (net : Netlist) (x : List Bool) (box : ℕ → ℕ → List Bool → Bool) → IsOrdered net → IsValue net x box (value_of net x box)

-- the bits of the choices that stand for a cell
abbrev cell_choices : FlatNet → List TableBits → List Bool → Cell → List Bool
cell_choices f tables value (cells.BoxOut b p) = choice_bits (reverse (map (bit_of value) (box_at f.net.boxes b).ins)) (column (table_at tables b) p)
cell_choices f tables value cell = []

-- those of all choices
abbrev all_choices : FlatNet → List TableBits → List Bool → List Bool
all_choices f tables value = flat_map (cell_choices f tables value) f.net.cells

-- the bit of each word at a vector
abbrev bit_at : FlatNet → List TableBits → List Bool → NetWord → Bool
bit_at f tables x (Bit b) = b
bit_at f tables x (Named name) = bit_called (f.ins ++ state_texts f) (bit_of x) (bit_called f.outs (out_bit f.net (flat_with f.net x tables)) false name) name
bit_at f tables x (CellNet number) = bit_of (flat_with f.net x tables) number
bit_at f tables x (ChoiceNet number) = bit_of (all_choices f tables (flat_with f.net x tables)) number

-- a tree has as many choices as are counted for its cell
module _ (f : FlatNet) (tables : List TableBits) (value : List Bool) (fits : TablesFit tables f.net.boxes) where
  pin_choices-length : (b p : ℕ) → length (cell_choices f tables value (cells.BoxOut b p)) ≡ choice_count f.net.boxes (cells.BoxOut b p)
  pin_choices-length b p =
      let ins = (box_at f.net.boxes b).ins in
      let pins = reverse (map (bit_of value) ins) in
      let many : length pins ≡ length ins = length-reverse (map (bit_of value) ins) ∙ length-map ins (bit_of value) in
      let rows : length (column (table_at tables b) p) ≡ 2 ^ length pins =
      length-map (range_with_len 0 (2 ^ (table_at tables b).inputs)) (λ row. table_bit (table_at tables b) row p) ∙ length-range_with_len 0 (2 ^ (table_at tables b).inputs)
      ∙ ap (λ n. 2 ^ n) (fits b ∙ sym many)
      in
      let same : 2 ^ length pins ≡ 2 ^ length ins = ap (λ n. 2 ^ n) many in
      omega (arith, choice_bits-length pins (column (table_at tables b) p) rows, same)

  cell_choices-length : (c : Cell) → length (cell_choices f tables value c) ≡ choice_count f.net.boxes c
  cell_choices-length (cells.Const b) = refl
  cell_choices-length (cells.Input i) = refl
  cell_choices-length (cells.Not a) = refl
  cell_choices-length (cells.And a b) = refl
  cell_choices-length (cells.Or a b) = refl
  cell_choices-length (cells.Xor a b) = refl
  cell_choices-length (cells.Mux c t e) = refl
  cell_choices-length (cells.BoxOut b p) = pin_choices-length b p

  choices_at : (k j : ℕ) → k < length f.net.cells → j < length (cell_choices f tables value (cell_at f.net.cells k)) → bit_of (all_choices f tables value) (first_choice f k + j) ≡ bit_of (cell_choices f tables value (cell_at f.net.cells k)) j
  choices_at k j within inside =
      let before : first_choice f k ≡ length (flat_map (cell_choices f tables value) (take k f.net.cells)) =
      ap (λ g. sum_by g (take k f.net.cells)) (λ i c. sym (cell_choices-length c) i) ∙ sym (length-flat_map (cell_choices f tables value) (take k f.net.cells))
      in
      ap (λ n. bit_of (all_choices f tables value) (n + j)) before ∙ get_or-flat_map (cell_choices f tables value) f.net.cells k j (cells.Const false) false within inside

module _ (f : FlatNet) (tables : List TableBits) (ready : IsReady f tables) (x : List Bool) (is_value : IsValue f.net x (tabled_bit tables) (flat_with f.net x tables)) where
  abbrev bit : NetWord → Bool
  bit = bit_at f tables x

  abbrev value : List Bool
  value = flat_with f.net x tables

  input_bit : (i : ℕ) → i < f.net.inputs → bit (Named (slice_index_or (f.ins ++ state_texts f) i [])) ≡ bit_of x i
  input_bit i within =
      called-at (f.ins ++ state_texts f) (bit_of x) (bit_called f.outs (out_bit f.net value) false (slice_index_or (f.ins ++ state_texts f) i [])) i (ports_apart f ready.names ready.flat)
      (omega (arith, within, ready.flat.named.inputs, length-append f.ins (state_texts f), length-map f.regs (λ q. q.text)))

  -- the words of the cells have their bits
  word_is : (k : ℕ) → word_bit f bit k ≡ bit_of value k
  word_is k = by (less_or_not k (length f.net.cells))
    where
      each : (c : Cell) → ReadsBefore f.net.inputs f.net.boxes k c → bit_of value k ≡ gate f.net.boxes x (tabled_bit tables) (bit_of value) c → bit (cell_word f k c) ≡ bit_of value k
      each (cells.Const b) reads is = sym is
      each (cells.Input i) reads is = input_bit i reads ∙ sym is
      each (cells.Not a) reads is = refl
      each (cells.And a b) reads is = refl
      each (cells.Or a b) reads is = refl
      each (cells.Xor a b) reads is = refl
      each (cells.Mux c t e) reads is = refl
      each (cells.BoxOut b p) reads is = refl

      by : (k < length f.net.cells) ⊎ (length f.net.cells ≤ k) → word_bit f bit k ≡ bit_of value k
      by (inl within) = each (cell_at f.net.cells k) (ready.flat.net.ordered k within) (is_value.each k within)
      by (inr past) = ap bit (word_past f k past) ∙ sym (get_or_past value k false (omega (arith, past, is_value.whole)))

  -- the lines of a tree
  tree_is_met : (k b p : ℕ) → k < length f.net.cells → cell_at f.net.cells k ≡ cells.BoxOut b p → AreMet bit (pin_tree f tables k b p)
  tree_is_met k b p within is =
      let ins = (box_at f.net.boxes b).ins in
      let t = table_at tables b in
      let pins : map bit (pin_words f b) ≡ reverse (map (bit_of value) ins) =
      reverse-map bit (map (word_at f) ins) ∙ ap reverse (map-twice (word_at f) bit ins ∙ ap (λ g. map g ins) (λ i k. word_is k i))
      in
      let same : cell_choices f tables value (cell_at f.net.cells k) ≡ choice_bits (map bit (pin_words f b)) (map bit (output_pin_words tables b p)) =
      ap (cell_choices f tables value) is ∙ sym (ap₂ choice_bits pins (bits_are bit (λ v. refl) (column t p)))
      in
      let long : length (output_pin_words tables b p) ≡ 2 ^ length (pin_words f b) = column-length t p ∙ ap (λ n. 2 ^ n) (tables_fit tables f.net.boxes ready.fit b ∙ sym (pins-length f b)) in
      tree_met bit (pin_words f b) (first_choice f k) (output_pin_words tables b p) long
      (subst (λ l. (j : ℕ) → j < length l → bit_of (all_choices f tables value) (first_choice f k + j) ≡ bit_of l j) same (λ j lt. choices_at f tables value (tables_fit tables f.net.boxes ready.fit) k j within lt))

  cell_is_met : TreesChoose → (k : ℕ) → k < length f.net.cells → AreMet bit (cell_lines f tables k (cell_at f.net.cells k))
  cell_is_met choose k within =
      let c = cell_at f.net.cells k in
      lines_from_net f tables x bit choose (λ b. refl) (tables_fit tables f.net.boxes ready.fit) k c
      (is_value.each k within ∙ ap (λ v. gate f.net.boxes x (tabled_bit tables) v c) (λ i j. sym (word_is j) i)) (λ b p is. tree_is_met k b p within is)

  output_is_met : (o : ℕ) → o < length f.outs → AreMet bit (output_lines f o)
  output_is_met o within = by (has_name (output_text f o) (state_texts f)) refl
    where
      by : (b : Bool) → has_name (output_text f o) (state_texts f) ≡ b → AreMet bit (if b then [] else Gate Buf (Named (output_text f o)) (word_at f (slice_index f.net.outs o) ∷ []) ∷ [])
      by true named = All-nil (IsMet bit)
      by false plain =
          let text = output_text f o in
          let own : bit (Named text) ≡ out_bit f.net value o =
          called-other (f.ins ++ state_texts f) (bit_of x) (bit_called f.outs (out_bit f.net value) false text) text (plain_apart f ready.names text (Contains-get_or f.outs o [] within) plain)
          ∙ called-at f.outs (out_bit f.net value) false o ready.flat.apart.outs within
          in
          All-cons (IsMet bit) (Gate Buf (Named text) (word_at f (slice_index f.net.outs o) ∷ [])) [] (own ∙ sym (word_is (slice_index f.net.outs o))) (All-nil (IsMet bit))

  register_is_met : (r : ℕ) (registers : List Register) → AreMet bit (register_lines f r registers)
  register_is_met r [] = All-nil (IsMet bit)
  register_is_met r (register ∷ registers) = All-cons (IsMet bit) (register_line f r register) (register_lines f (r + 1) registers) tt (register_is_met (r + 1) registers)

  declarations_are_met : AreMet bit (declarations f)
  declarations_are_met =
      All-cons (IsMet bit) (Module (f.ins ++ f.outs)) (map Input f.ins ++ map Output f.outs ++ map Reg (state_texts f)) tt
      (All-append (IsMet bit) (map Input f.ins ++ map Output f.outs) (map Reg (state_texts f))
      (All-append (IsMet bit) (map Input f.ins) (map Output f.outs) (All-map (IsMet bit) Input f.ins (λ k d lt. tt)) (All-map (IsMet bit) Output f.outs (λ k d lt. tt))) (All-map (IsMet bit) Reg (state_texts f) (λ k d lt. tt)))

  some_bits : TreesChoose → (bit : NetWord → Bool) × GivesBitsOf f x bit × AreMet bit (filled_lines f tables)
  some_bits choose =
      (bit_at f tables x, record { numbers = λ b. refl; inputs = input_bit }, all_parts (IsMet bit) f tables declarations_are_met (cell_is_met choose) output_is_met (register_is_met 0 f.regs) tt)

pub lines_can_be_met : TreesChoose → ValuesExist → LinesCanBeMet
lines_can_be_met choose exist f tables ready x vector = some_bits f tables ready x (exist f.net x (tabled_bit tables) ready.flat.net.ordered) choose
