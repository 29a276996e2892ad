-- Between its first and its last line a filled text has items, and their names can be printed.
use Rattle.std.proofs.Common.{◌≡◌, inl, inr, ℕ, zero, suc, ◌+◌, ◌/◌, ◌^◌, ◌<◌, Bool, true, false, Option, Some, None, IsSome, List, [], ◌∷◌, ◌++◌, length, map, reverse, refl, ap, sym, ◌∙◌, subst, arith, length-append}
use Rattle.std.specs.Prelude.{All, IfSome, if◌then◌else◌, slice_index, slice_get}
use Rattle.std.specs.List.{AllByRecursion, flat_map, range_with_len}
use Rattle.std.specs.Option.{unwrap_or, option_and_then}
use Rattle.std.proofs.lemmas.List.{length-map, length-reverse, get_or_past, reverse-append}
use Rattle.std.proofs.lemmas.List.Elements.{All-append, recursion_from_All, All-from_recursion}
use Rattle.bb_bits.specs.Names.{IsPrintable}
use Rattle.bb_bits.specs.Earlier.{has_name}
use Rattle.bb_bits.specs.Tables.{TableBits, table_bit, column}
use Rattle.bb_lemmas.proofs.Orders.{less_or_past}
use Rattle.bb_lemmas.proofs.Places.{some_at, got}
use Rattle.bb_lemmas.proofs.Ranges.{length-range}
use Rattle.std.proofs.Math.Nat.{pow-suc}
use Rattle.bb_net.specs.declared.cell.Cell.{Cell}
use Rattle.bb_net.specs.declared.cell.Cell.TheVariants as cells
use Rattle.bb_net.specs.declared.flat.Reg.{Reg as Register}
use Rattle.bb_net.specs.Netlists.{Pins, ReadsBefore, cell_at, box_at}
use Rattle.bb_net.specs.Values.{FitBoxes, table_at}
use Rattle.bb_net.specs.Flats.{FlatNet, IsFlat, HaveClocks}
use Rattle.bb_net.specs.CutPoints.{state_texts}
use Rattle.bb_fill.specs.Words.{NetWord, Bit, Named, CellNet, ChoiceNet, cell_word, word_at}
use Rattle.bb_fill.specs.Lines.{Line, Input, Output, Reg, Gate, Buf}
use Rattle.bb_fill.specs.Trees.{halved, choice_nets, tree_lines, tree_values}
use Rattle.bb_fill.specs.Filled.{pin_words, output_pin_words, first_choice, cell_lines, lines_of_cells, output_text, output_lines, register_lines}
use Rattle.bb_readback.proofs.Classes.{all-append}
use Rattle.bb_readback.proofs.LineFits.{IsGoodWord, AreGoodWords, IsGoodLine}
use Rattle.bb_readback.proofs.LineItems.{IsItemLine}
use Rattle.bb_readback.proofs.Reading.{AreInner}

-- what holds of each element of lists that are made from others
all-map : {A B : Type 0} (P : B → Type 0) (f : A → B) (xs : List A) → AllByRecursion (λ x. P (f x)) xs
    → AllByRecursion P (map f xs)
all-map P f [] all = tt
all-map P f (x ∷ xs) all = (all.0, all-map P f xs all.1)

all-each : {A B : Type 0} (P : B → Type 0) (f : A → B) (xs : List A) → ((x : A) → P (f x)) → AllByRecursion P (map f xs)
all-each P f [] all = tt
all-each P f (x ∷ xs) all = (all x, all-each P f xs all)

all-range : {A : Type 0} (P : A → Type 0) (f : ℕ → List A) (a n : ℕ) → ((k : ℕ) → k < a + n → AllByRecursion P (f k))
    → AllByRecursion P (flat_map f (range_with_len a n))
all-range P f a zero all = tt
all-range P f a (suc n) all =
    all-append P (f a) (flat_map f (range_with_len (a + 1) n)) (all a (omega arith))
    (all-range P f (a + 1) n (λ k lt. all k (omega (arith, lt))))

all-reverse : {A : Type 0} (P : A → Type 0) (xs : List A) → AllByRecursion P xs → AllByRecursion P (reverse xs)
all-reverse P [] all = tt
all-reverse P (x ∷ xs) all =
    subst (AllByRecursion P) (sym (reverse-append (x ∷ []) xs)) (all-append P (reverse xs) (x ∷ []) (all-reverse P xs all.1) (all.0, tt))

-- the lines between the first and the last
abbrev pub inner_lines : FlatNet → List TableBits → List Line
inner_lines f tables =
    map Input f.ins ++ map Output f.outs ++ map Reg (state_texts f) ++ lines_of_cells f tables
    ++ flat_map (output_lines f) (range_with_len 0 (length f.outs)) ++ register_lines f 0 f.regs

-- a line that is an item with good names
abbrev IsInner : Line → Type 0
IsInner line = IsItemLine line × IsGoodLine line

declared_each : (line : List ℕ → Line) → ((name : List ℕ) → IsPrintable name → IsInner (line name)) → (names : List (List ℕ))
    → AllByRecursion IsPrintable names → AllByRecursion IsInner (map line names)
declared_each line good [] all = tt
declared_each line good (name ∷ names) all = (good name all.0, declared_each line good names all.1)

-- the choices of a tree over good words
choices_good : (number count : ℕ) → AreGoodWords (choice_nets number count)
choices_good number count = all-each IsGoodWord (λ i. ChoiceNet (number + i)) (range_with_len 0 count) (λ i. tt)

halved_inner : (pin : NetWord) (number : ℕ) (values : List NetWord) → IsGoodWord pin → AreGoodWords values
    → AllByRecursion IsInner (halved pin number values)
halved_inner pin number [] good all = tt
halved_inner pin number (value ∷ []) good all = tt
halved_inner pin number (low ∷ high ∷ values) good all =
    ((tt, (tt, good, all.1.0, all.0)), halved_inner pin (number + 1) values good all.1.1)

tree_inner : (pins : List NetWord) (number : ℕ) (values : List NetWord) → AreGoodWords pins → AreGoodWords values
    → AllByRecursion IsInner (tree_lines pins number values)
tree_inner [] number values good all = tt
tree_inner (pin ∷ pins) number values good all =
    all-append IsInner (halved pin number values) (tree_lines pins (number + length values / 2)
    (choice_nets number (length values / 2))) (halved_inner pin number values good.0 all)
    (tree_inner pins (number + length values / 2) (choice_nets number (length values / 2)) good.1 (choices_good number (length values / 2)))

values_good : (pins : List NetWord) (number : ℕ) (values : List NetWord) → AreGoodWords values
    → AreGoodWords (tree_values pins number values)
values_good [] number values all = all
values_good (pin ∷ pins) number values all =
    values_good pins (number + length values / 2) (choice_nets number (length values / 2)) (choices_good number (length values / 2))

-- a value is left where there are as many as rows
length-choices : (number count : ℕ) → length (choice_nets number count) ≡ count
length-choices number count = length-map (range_with_len 0 count) (λ i. ChoiceNet (number + i)) ∙ length-range 0 count

values_left : (pins : List NetWord) (number : ℕ) (values : List NetWord) → length values ≡ 2 ^ length pins
    → 0 < length (tree_values pins number values)
values_left [] number values is = omega (arith, is)
values_left (pin ∷ pins) number values is =
    let half : length values / 2 ≡ 2 ^ length pins = omega (arith, is, pow-suc 2 (length pins)) in
    values_left pins (number + length values / 2) (choice_nets number (length values / 2)) (length-choices number (length values / 2) ∙ half)

module _ (f : FlatNet) (tables : List TableBits) (flat : IsFlat f) (fit : FitBoxes tables f.net.boxes) where
  texts_printable : All IsPrintable (state_texts f)
  texts_printable =
      All-from_recursion IsPrintable (state_texts f) (all-map IsPrintable (λ (r : Register). r.text) f.regs
      (recursion_from_All (λ (r : Register). IsPrintable r.text) f.regs flat.printable.regs))

  inputs_printable : All IsPrintable (f.ins ++ state_texts f)
  inputs_printable = All-append IsPrintable f.ins (state_texts f) flat.printable.ins texts_printable

  inputs_many : length (f.ins ++ state_texts f) ≡ f.net.inputs
  inputs_many =
      length-append f.ins (state_texts f) ∙ ap (λ n. length f.ins + n) (length-map f.regs (λ (r : Register). r.text)) ∙ sym flat.named.inputs

  cell_good : (number place : ℕ) (cell : Cell) → ReadsBefore f.net.inputs f.net.boxes place cell
      → IsGoodWord (cell_word f number cell)
  cell_good number place (cells.Const b) reads = tt
  cell_good number place (cells.Input i) reads = inputs_printable i [] (omega (arith, reads, inputs_many))
  cell_good number place (cells.Not a) reads = tt
  cell_good number place (cells.And a b) reads = tt
  cell_good number place (cells.Or a b) reads = tt
  cell_good number place (cells.Xor a b) reads = tt
  cell_good number place (cells.Mux c t e) reads = tt
  cell_good number place (cells.BoxOut b p) reads = tt

  word_good : (number : ℕ) → IsGoodWord (word_at f number)
  word_good number =
      elim (less_or_past number (length f.net.cells)) [
        | inl lt ↦ cell_good number number (cell_at f.net.cells number) (flat.net.ordered number lt)
        | inr le ↦ subst (λ (cell : Cell). IsGoodWord (cell_word f number cell)) (sym (get_or_past f.net.cells number (cells.Const false) le)) tt
      ]

  pins_good : (b : ℕ) → AreGoodWords (pin_words f b)
  pins_good b =
      all-reverse IsGoodWord (map (word_at f) (box_at f.net.boxes b).ins) (all-each IsGoodWord (word_at f) (box_at f.net.boxes b).ins word_good)

  bits_good : (b p : ℕ) → AreGoodWords (output_pin_words tables b p)
  bits_good b p = all-each IsGoodWord Bit (column (table_at tables b) p) (λ bit. tt)

  length-pins : (b : ℕ) → length (pin_words f b) ≡ length (box_at f.net.boxes b).ins
  length-pins b = length-reverse (map (word_at f) (box_at f.net.boxes b).ins) ∙ length-map (box_at f.net.boxes b).ins (word_at f)

  length-bits : (b p : ℕ) → length (output_pin_words tables b p) ≡ 2 ^ (table_at tables b).inputs
  length-bits b p =
      length-map (column (table_at tables b) p) Bit ∙ length-map (range_with_len 0 (2 ^ (table_at tables b).inputs))
      (λ row. table_bit (table_at tables b) row p)
      ∙ length-range 0 (2 ^ (table_at tables b).inputs)

  -- the box of an output pin is there
  box_there : (k b p : ℕ) → k < length f.net.cells → cell_at f.net.cells k ≡ cells.BoxOut b p → b < length f.net.boxes
  box_there k b p lt is =
      elim (less_or_past b (length f.net.boxes)) [
        | inl there ↦ there
        | inr past ↦
            let pin = flat.net.listed k b p lt is in
            let none : length (box_at f.net.boxes b).outs ≡ 0 =
            ap (λ (box : Pins). length box.outs) (get_or_past f.net.boxes b (record { ins = []; outs = [] }) past) in
            absurd (omega (arith, pin.0, none))
      ]

  cell_inner : (k : ℕ) → k < length f.net.cells → (cell : Cell) → cell_at f.net.cells k ≡ cell
      → AllByRecursion IsInner (cell_lines f tables k cell)
  cell_inner k lt (cells.Const b) is = tt
  cell_inner k lt (cells.Input i) is = tt
  cell_inner k lt (cells.Not a) is = ((tt, (tt, (word_good a, tt), omega arith)), tt)
  cell_inner k lt (cells.And a b) is = ((tt, (tt, (word_good a, (word_good b, tt)), omega arith)), tt)
  cell_inner k lt (cells.Or a b) is = ((tt, (tt, (word_good a, (word_good b, tt)), omega arith)), tt)
  cell_inner k lt (cells.Xor a b) is = ((tt, (tt, (word_good a, (word_good b, tt)), omega arith)), tt)
  cell_inner k lt (cells.Mux c t e) is = ((tt, (tt, word_good c, word_good t, word_good e)), tt)
  cell_inner k lt (cells.BoxOut b p) is =
      let many : length (output_pin_words tables b p) ≡ 2 ^ length (pin_words f b) =
      length-bits b p ∙ ap (λ n. 2 ^ n) (fit.inputs b (box_there k b p lt is) ∙ sym (length-pins b)) in
      all-append IsInner (tree_lines (pin_words f b) (first_choice f k) (output_pin_words tables b p))
      (Gate Buf (CellNet k) (tree_values (pin_words f b) (first_choice f k) (output_pin_words tables b p)) ∷ [])
      (tree_inner (pin_words f b) (first_choice f k) (output_pin_words tables b p) (pins_good b) (bits_good b p))
      ((tt, (tt, values_good (pin_words f b) (first_choice f k) (output_pin_words tables b p) (bits_good b p), values_left (pin_words f b) (first_choice f k) (output_pin_words tables b p) many)), tt)

  cells_inner : AllByRecursion IsInner (lines_of_cells f tables)
  cells_inner =
      all-range IsInner (λ k. cell_lines f tables k (cell_at f.net.cells k)) 0 (length f.net.cells)
      (λ k lt. cell_inner k (omega (arith, lt)) (cell_at f.net.cells k) refl)

  -- an output without a line, or with one
  output_inner : (o : ℕ) → o < length f.outs → AllByRecursion IsInner (output_lines f o)
  output_inner o lt = by (has_name (output_text f o) (state_texts f))
    where
      by : (b : Bool)
          → AllByRecursion IsInner (if b then [] else Gate Buf (Named (output_text f o)) (word_at f (slice_index f.net.outs o) ∷ []) ∷ [])
      by true = tt
      by false = ((tt, (flat.printable.outs o [] lt, (word_good (slice_index f.net.outs o), tt), omega arith)), tt)

  outputs_inner : AllByRecursion IsInner (flat_map (output_lines f) (range_with_len 0 (length f.outs)))
  outputs_inner = all-range IsInner (output_lines f) 0 (length f.outs) (λ o lt. output_inner o (omega (arith, lt)))

  -- a register by its clock, which is an input
  clock_printable : (clock : Option ℕ) → IsSome clock → IfSome clock (λ k. k < length f.ins)
      → IsPrintable (unwrap_or (option_and_then (slice_get f.ins) clock) [])
  clock_printable None has lt = absurd (cc)
  clock_printable (Some k) has lt =
      let here = some_at f.ins k lt in
      subst (λ (text : Option (List ℕ)). IsPrintable (unwrap_or text [])) (sym here.1)
      (subst IsPrintable (got f.ins k here.0 [] here.1).1 (flat.printable.ins k [] lt))

  lines_of_registers : (r : ℕ) (registers : List Register) → AllByRecursion (λ register. IsPrintable register.text) registers
      → AllByRecursion (λ register. IsSome register.clock) registers
      → AllByRecursion (λ register. IfSome register.clock (λ k. k < length f.ins)) registers → AllByRecursion IsInner (register_lines f r registers)
  lines_of_registers r [] texts clocks inputs = tt
  lines_of_registers r (register ∷ registers) texts clocks inputs = (
    (tt, (clock_printable register.clock clocks.0 inputs.0, texts.0, word_good (slice_index f.net.outs (length f.outs + r)))),
    lines_of_registers (r + 1) registers texts.1 clocks.1 inputs.1,
  )

  registers_inner : HaveClocks f → AllByRecursion IsInner (register_lines f 0 f.regs)
  registers_inner clocks =
      lines_of_registers 0 f.regs (recursion_from_All (λ (r : Register). IsPrintable r.text) f.regs flat.printable.regs)
      (recursion_from_All (λ (r : Register). IsSome r.clock) f.regs clocks)
      (recursion_from_All (λ (r : Register). IfSome r.clock (λ k. k < length f.ins)) f.regs flat.clocks)

  -- names that are declared
  declared_inner : (line : List ℕ → Line) → ((name : List ℕ) → IsPrintable name → IsInner (line name)) → (names : List (List ℕ))
      → All IsPrintable names → AllByRecursion IsInner (map line names)
  declared_inner line good names all = declared_each line good names (recursion_from_All IsPrintable names all)

  pub filled_inner : HaveClocks f → AreInner (inner_lines f tables)
  filled_inner clocks =
      let ins = declared_inner Input (λ name good. (tt, good)) f.ins flat.printable.ins in
      let outs = declared_inner Output (λ name good. (tt, good)) f.outs flat.printable.outs in
      let regs = declared_inner Reg (λ name good. (tt, good)) (state_texts f) texts_printable in
      all-append IsInner _ (register_lines f 0 f.regs)
      (all-append IsInner _ (flat_map (output_lines f) (range_with_len 0 (length f.outs)))
      (all-append IsInner _ (lines_of_cells f tables)
      (all-append IsInner (map Input f.ins ++ map Output f.outs) (map Reg (state_texts f))
      (all-append IsInner (map Input f.ins) (map Output f.outs) ins outs) regs)
      cells_inner) outputs_inner) (registers_inner clocks)

  pub ports_good : AreGoodWords (map Named (f.ins ++ f.outs))
  ports_good =
      all-map IsGoodWord Named (f.ins ++ f.outs) (recursion_from_All IsPrintable (f.ins ++ f.outs)
      (All-append IsPrintable f.ins f.outs flat.printable.ins flat.printable.outs))
