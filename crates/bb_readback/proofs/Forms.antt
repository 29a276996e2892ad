-- The lines of a filled text by their form: declarations, then gates and choices, each of which drives a net, then a line for each register.
use Rattle.std.proofs.Common.{◌≡◌, ◌∙◌, ◌⊎◌, inl, inr, ℕ, suc, ◌+◌, ◌*◌, ◌/◌, ◌^◌, ◌<◌, ◌≤◌, Bool, true, false, if◌then◌else◌, List, [], ◌∷◌, ◌++◌, append_assoc, get_or, length, map, flat_map, All, Contains, refl, sym, ap, subst, arith}
use Rattle.std.specs.Prelude.{slice_index}
use Rattle.std.specs.List.{range_with_len}
use Rattle.std.proofs.lemmas.List.{get_or_past, length-map, length-reverse}
use Rattle.std.proofs.lemmas.List.Elements.{All-append, All-cons, All-nil, All-push}
use Rattle.std.proofs.lemmas.List.FromFn.{length-range_with_len}
use Rattle.bb_bits.specs.Earlier.{has_name}
use Rattle.bb_bits.specs.Tables.{TableBits, table_bit, column}
use Rattle.bb_net.specs.declared.cell.Cell.{Cell}
use Rattle.bb_net.specs.declared.cell.Cell.TheVariants as cells
use Rattle.bb_net.specs.declared.flat.Reg.{Reg as Register}
use Rattle.bb_net.specs.CutPoints.{state_texts}
use Rattle.bb_net.specs.Flats.{FlatNet}
use Rattle.bb_net.specs.Netlists.{Pins, box_at, cell_at}
use Rattle.bb_net.specs.Values.{FitBoxes, table_at}
use Rattle.bb_fill.specs.Words.{NetWord, Bit, Named, CellNet, ChoiceNet, word_at}
use Rattle.bb_fill.specs.Lines.{Line, Primitive, Not, And, Or, Xor, Buf, Module, Input, Output, Reg, Gate, Assign, Always, End}
use Rattle.bb_fill.specs.Trees.{choice_nets, halved, tree_lines, tree_values}
use Rattle.bb_fill.specs.Filled.{cell_lines, filled_lines, first_choice, lines_of_cells, output_lines, output_text, output_pin_words, pin_words, register_lines}
use Rattle.bb_fill.specs.Laws.{IsReady}
use Rattle.bb_lemmas.proofs.Members.{contains-map, contains_here, contains_there}
use Rattle.bb_lemmas.proofs.Orders.{less_or_not}
use Rattle.bb_lemmas.proofs.Places.{only_one}

-- the parts of the text
abbrev pub declared_lines : FlatNet → List Line
declared_lines f = Module (f.ins ++ f.outs) ∷ map Input f.ins ++ map Output f.outs ++ map Reg (state_texts f)

abbrev pub driving_lines : FlatNet → List TableBits → List Line
driving_lines f tables = lines_of_cells f tables ++ flat_map (output_lines f) (range_with_len 0 (length f.outs))

abbrev pub storing_lines : FlatNet → List Line
storing_lines f = register_lines f 0 f.regs

pub lines_are : (f : FlatNet) (tables : List TableBits)
    → filled_lines f tables ≡ (declared_lines f ++ driving_lines f tables) ++ (storing_lines f ++ End ∷ [])
lines_are f tables =
    let outputs = flat_map (output_lines f) (range_with_len 0 (length f.outs)) in
    append_assoc (declared_lines f ++ lines_of_cells f tables ++ outputs) (storing_lines f) (End ∷ [])
    ∙ ap (λ l. l ++ (storing_lines f ++ End ∷ [])) (append_assoc (declared_lines f) (lines_of_cells f tables) outputs)

-- a word that is no number
abbrev pub IsNet : NetWord → Type 0
IsNet (Bit b) = ⊥
IsNet word = Unit {0}

-- how many inputs a gate has
abbrev pub IsOne : List NetWord → Type 0
IsOne ins = (v : NetWord) × (ins ≡ v ∷ [])

abbrev pub AreTwo : List NetWord → Type 0
AreTwo ins = (v : NetWord) × (w : NetWord) × (ins ≡ v ∷ w ∷ [])

abbrev pub Takes : Primitive → List NetWord → Type 0
Takes Not ins = IsOne ins
Takes Buf ins = IsOne ins
Takes And ins = AreTwo ins
Takes Or ins = AreTwo ins
Takes Xor ins = AreTwo ins

-- a gate or a choice, that drives a net
abbrev pub IsDriving : Line → Type 0
IsDriving (Gate primitive out ins) = IsNet out × Takes primitive ins
IsDriving (Assign left condition high low) = IsNet left
IsDriving line = ⊥

-- a register, that takes a bit
abbrev pub IsStoring : List (List ℕ) → Line → Type 0
IsStoring texts (Always falling clock name data_word) = Contains texts name
IsStoring texts line = ⊥

one_driving : (line : Line) → IsDriving line → All IsDriving (line ∷ [])
one_driving line driving = All-cons IsDriving line [] driving (All-nil IsDriving)

-- the tree of an output pin, and its value

halved_driving : (pin : NetWord) (k : ℕ) (values : List NetWord) → All IsDriving (halved pin k values)
halved_driving pin k [] = All-nil IsDriving
halved_driving pin k (v ∷ []) = All-nil IsDriving
halved_driving pin k (low ∷ high ∷ values) = All-cons IsDriving (Assign (ChoiceNet k) pin high low) (halved pin (k + 1) values) tt (halved_driving pin (k + 1) values)

tree_driving : (pins : List NetWord) (k : ℕ) (values : List NetWord) → All IsDriving (tree_lines pins k values)
tree_driving [] k values = All-nil IsDriving
tree_driving (pin ∷ pins) k values =
    let n = length values / 2 in
    All-append IsDriving (halved pin k values) (tree_lines pins (k + n) (choice_nets k n)) (halved_driving pin k values) (tree_driving pins (k + n) (choice_nets k n))

choices-length : (k n : ℕ) → length (choice_nets k n) ≡ n
choices-length k n = length-map (range_with_len 0 n) (λ i. ChoiceNet (k + i)) ∙ length-range_with_len 0 n

tree_value : (pins : List NetWord) (k : ℕ) (values : List NetWord) → length values ≡ 2 ^ length pins → IsOne (tree_values pins k values)
tree_value [] k values long = (get_or values 0 (Bit false), only_one values (Bit false) long)
tree_value (pin ∷ pins) k values long =
    let n = length values / 2 in
    let twice : 2 ^ suc (length pins) ≡ 2 * 2 ^ length pins = omega arith in
    let half : n ≡ 2 ^ length pins = omega (arith, long, twice) in
    tree_value pins (k + n) (choice_nets k n) (choices-length k n ∙ half)

module _ (f : FlatNet) (tables : List TableBits) (fit : FitBoxes tables f.net.boxes) where
  -- after the last box there is neither a pin nor a table
  table_fits : (b : ℕ) → (table_at tables b).inputs ≡ length (box_at f.net.boxes b).ins
  table_fits b = by (less_or_not b (length f.net.boxes))
    where
      by : (b < length f.net.boxes) ⊎ (length f.net.boxes ≤ b) → (table_at tables b).inputs ≡ length (box_at f.net.boxes b).ins
      by (inl within) = fit.inputs b within
      by (inr past) =
          let none : length tables ≤ b = subst (λ n. n ≤ b) (sym fit.count) past in
          ap (λ (t : TableBits). t.inputs) (get_or_past tables b (record { inputs = 0; outputs = 0; rows = [] }) none)
          ∙ sym (ap (λ (p : Pins). length p.ins) (get_or_past f.net.boxes b (record { ins = []; outs = [] }) past))

  pin_value : (k b p : ℕ) → IsOne (tree_values (pin_words f b) (first_choice f k) (output_pin_words tables b p))
  pin_value k b p =
      let t = table_at tables b in
      let pins : length (pin_words f b) ≡ length (box_at f.net.boxes b).ins =
      length-reverse (map (word_at f) (box_at f.net.boxes b).ins) ∙ length-map (box_at f.net.boxes b).ins (word_at f)
      in
      let rows : length (output_pin_words tables b p) ≡ 2 ^ t.inputs =
      length-map (column t p) Bit ∙ length-map (range_with_len 0 (2 ^ t.inputs)) (λ row. table_bit t row p) ∙ length-range_with_len 0 (2 ^ t.inputs)
      in
      tree_value (pin_words f b) (first_choice f k) (output_pin_words tables b p) (rows ∙ ap (λ n. 2 ^ n) (table_fits b ∙ sym pins))

  cell_driving : (k : ℕ) (c : Cell) → All IsDriving (cell_lines f tables k c)
  cell_driving k (cells.Const b) = All-nil IsDriving
  cell_driving k (cells.Input i) = All-nil IsDriving
  cell_driving k (cells.Not a) = one_driving (Gate Not (CellNet k) (word_at f a ∷ [])) (tt, (word_at f a, refl))
  cell_driving k (cells.And a b) = one_driving (Gate And (CellNet k) (word_at f a ∷ word_at f b ∷ [])) (tt, (word_at f a, word_at f b, refl))
  cell_driving k (cells.Or a b) = one_driving (Gate Or (CellNet k) (word_at f a ∷ word_at f b ∷ [])) (tt, (word_at f a, word_at f b, refl))
  cell_driving k (cells.Xor a b) = one_driving (Gate Xor (CellNet k) (word_at f a ∷ word_at f b ∷ [])) (tt, (word_at f a, word_at f b, refl))
  cell_driving k (cells.Mux c t e) = one_driving (Assign (CellNet k) (word_at f c) (word_at f t) (word_at f e)) tt
  cell_driving k (cells.BoxOut b p) =
      let pins = pin_words f b in
      let first = first_choice f k in
      let bits = output_pin_words tables b p in
      All-push IsDriving (tree_lines pins first bits) (Gate Buf (CellNet k) (tree_values pins first bits)) (tree_driving pins first bits) (tt, pin_value k b p)

output_driving : (f : FlatNet) (o : ℕ) → All IsDriving (output_lines f o)
output_driving f o = by (has_name (output_text f o) (state_texts f))
  where
    copy : Line
    copy = Gate Buf (Named (output_text f o)) (word_at f (slice_index f.net.outs o) ∷ [])

    by : (b : Bool) → All IsDriving (if b then [] else copy ∷ [])
    by true = All-nil IsDriving
    by false = one_driving copy (tt, (word_at f (slice_index f.net.outs o), refl))

pub all_flat : {A B : Type 0} (P : B → Type 0) (g : A → List B) (xs : List A) → ((x : A) → All P (g x)) → All P (flat_map g xs)
all_flat P g [] each = All-nil P
all_flat P g (x ∷ xs) each = All-append P (g x) (flat_map g xs) (each x) (all_flat P g xs each)

pub cells_driving : (f : FlatNet) (tables : List TableBits) → IsReady f tables → All IsDriving (lines_of_cells f tables)
cells_driving f tables ready =
    all_flat IsDriving (λ k. cell_lines f tables k (cell_at f.net.cells k)) (range_with_len 0 (length f.net.cells))
    (λ k. cell_driving f tables ready.fit k (cell_at f.net.cells k))

pub are_driving : (f : FlatNet) (tables : List TableBits) → IsReady f tables → All IsDriving (driving_lines f tables)
are_driving f tables ready =
    let outputs = range_with_len 0 (length f.outs) in
    All-append IsDriving (lines_of_cells f tables) (flat_map (output_lines f) outputs) (cells_driving f tables ready)
    (all_flat IsDriving (output_lines f) outputs (output_driving f))

registers_storing : (f : FlatNet) (texts : List (List ℕ)) (k : ℕ) (registers : List Register)
    → ((r : Register) → Contains registers r → Contains texts r.text) → All (IsStoring texts) (register_lines f k registers)
registers_storing f texts k [] there = All-nil (IsStoring texts)
registers_storing f texts k (r ∷ rs) there =
    All-cons (IsStoring texts) _ (register_lines f (k + 1) rs) (there r (contains_here r rs))
    (registers_storing f texts (k + 1) rs (λ q has. there q (contains_there r rs q has)))

pub are_storing : (f : FlatNet) → All (IsStoring (state_texts f)) (storing_lines f)
are_storing f = registers_storing f (state_texts f) 0 f.regs (λ r has. contains-map (λ (q : Register). q.text) f.regs r has)
