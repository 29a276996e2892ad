-- How many bytes a filled text has at most. A word is a number of one bit, a name, or the stem and a number of seven digits, so it has at most
-- eight bytes more than the longest name; a line has four words at most, and with its declaration a net has no more.
use Rattle.std.proofs.Common.{◌≡◌, ◌∙◌, ◌⊎◌, inl, inr, ℕ, zero, suc, ◌+◌, ◌*◌, ◌/◌, ◌^◌, ◌<◌, ◌≤◌, ◌==◌, max, Bool, true, false, if◌then◌else◌, List, [], ◌∷◌, ◌++◌, length, length-append, map, refl, sym, ap, subst, arith}
use Rattle.std.specs.Prelude.{All, Contains, codes, decimal, slice_index}
use Rattle.std.specs.List.{flat_map, range_with_len}
use Rattle.std.specs.Option.{unwrap_or}
use Rattle.std.proofs.lemmas.Fmt.{length-decimal-le}
use Rattle.std.proofs.lemmas.Grind.{flat_map-append}
use Rattle.std.proofs.lemmas.List.{length-map, length-replicate}
use Rattle.std.proofs.lemmas.List.Concat.{length-flat_map}
use Rattle.std.proofs.lemmas.List.Elements.{All-append, All-cons, All-contains, All-head, All-nil, All-tail, Contains-append_cases, Contains-append_left, Contains-append_right}
use Rattle.std.proofs.lemmas.List.Sums.{sum_by-le}
use Rattle.std.proofs.lemmas.Nat.{mul-le}
use Rattle.bb_bits.specs.Earlier.{has_name}
use Rattle.bb_bits.specs.Tables.{TableBits}
use Rattle.bb_lemmas.proofs.Members.{all_from, contains_cases, contains_here, contains_there, from_map}
use Rattle.bb_lemmas.proofs.Turns.{all_flat}
use Rattle.bb_net.specs.declared.cell.Cell.{Cell}
use Rattle.bb_net.specs.declared.cell.Cell.TheVariants as cells
use Rattle.bb_net.specs.declared.flat.Reg.{Reg as Register}
use Rattle.bb_net.specs.CutPoints.{clock_text, state_texts}
use Rattle.bb_net.specs.Flats.{FlatNet, HaveClocks}
use Rattle.bb_net.specs.Netlists.{box_at, cell_at}
use Rattle.bb_net.specs.Values.{table_at}
use Rattle.bb_fill.specs.Words.{NetWord, Bit, Named, CellNet, ChoiceNet, leading, maximum, printed, stem_of, texts_of, word_at, word_text}
use Rattle.bb_fill.specs.Lines.{Line, Primitive, Not, And, Or, Xor, Buf, Module, Input, Output, Reg, Gate, Assign, Always, End, line_text, primitive_text, with_commas}
use Rattle.bb_fill.specs.Trees.{choice_nets, halved, tree_lines, tree_values}
use Rattle.bb_fill.specs.Filled.{cell_lines, filled_lines, first_choice, lines_of_cells, next_word, output_lines, output_pin_words, output_text, pin_words, register_line, register_lines}
use Rattle.bb_fill.specs.Laws.{IsReady, TextsAreShort, WordsAreNets, line_words, longest_name}
use Rattle.bb_fill.specs.Sizes.{most_filled_cells, most_nets, net_count}
use Rattle.bb_fill.proofs.LineParts.{all_of_numbers, declarations, lines_of_outputs, part_of_cell, part_of_output}
use Rattle.bb_fill.proofs.Lists.{all_left, all_right}
use Rattle.bb_fill.proofs.MetCells.{TablesFit, pin_copy, pin_tree, tables_fit}
use Rattle.bb_fill.proofs.NetlistWords.{words_hold}
use Rattle.bb_fill.proofs.SizeLemmas.{column-length, nets-length, pins-length}

-- names and the stem

greatest : (texts : List (List ℕ)) (text : List ℕ) → Contains texts text → length text ≤ maximum (map length texts)
greatest [] text has = absurd (omega (arith, has.1))
greatest (t ∷ texts) text has = by (contains_cases t texts text has) (greatest texts text)
  where
    by : (t ≡ text) ⊎ Contains texts text → (Contains texts text → length text ≤ maximum (map length texts)) → length text ≤ max (length t) (maximum (map length texts))
    by (inl is) rest = let same : length t ≡ length text = ap length is in omega (arith, same)
    by (inr more) rest = let below = rest more in omega (arith, below)

leading-few : (text : List ℕ) → leading text ≤ length text
leading-few [] = omega arith
leading-few (byte ∷ bytes) = by (byte == 95) (leading-few bytes)
  where
    by : (b : Bool) → leading bytes ≤ length bytes → (if b then 1 + leading bytes else 0) ≤ length (byte ∷ bytes)
    by true rest = omega (arith, rest)
    by false rest = omega arith

max-below : (a b c d : ℕ) → a ≤ c → b ≤ d → max a b ≤ max c d
max-below a b c d first rest = omega (arith, first, rest)

leading-greatest : (texts : List (List ℕ)) → maximum (map leading texts) ≤ maximum (map length texts)
leading-greatest [] = omega arith
leading-greatest (t ∷ texts) = max-below (leading t) (maximum (map leading texts)) (length t) (maximum (map length texts)) (leading-few t) (leading-greatest texts)

stem-length : (f : FlatNet) → length (stem_of f) ≤ longest_name f + 1
stem-length f = omega (arith, length-replicate {A = ℕ} (maximum (map leading (texts_of f)) + 1) 95, leading-greatest (texts_of f))

printed-length : (name : List ℕ) → length (printed name) ≡ length name + 2
printed-length name = omega (arith, length-append (codes "\\" ++ name) (codes " "), length-append (codes "\\") name)

-- texts one after another

three_parts : (a b c : List ℕ) → length (a ++ b ++ c) ≡ length a + length b + length c
three_parts a b c = omega (arith, length-append (a ++ b) c, length-append a b)

four_parts : (a b c d : List ℕ) → length (a ++ b ++ c ++ d) ≡ length a + length b + length c + length d
four_parts a b c d = omega (arith, length-append (a ++ b ++ c) d, three_parts a b c)

eight_parts : (a b c d e g h i : List ℕ) → length (a ++ b ++ c ++ d ++ e ++ g ++ h ++ i) ≡ length a + length b + length c + length d + length e + length g + length h + length i
eight_parts a b c d e g h i =
    omega (arith, length-append (a ++ b ++ c ++ d ++ e ++ g ++ h) i, length-append (a ++ b ++ c ++ d ++ e ++ g) h, length-append (a ++ b ++ c ++ d ++ e) g, length-append (a ++ b ++ c ++ d) e, four_parts a b c d)

nine_parts : (a b c d e g h i j : List ℕ) → length (a ++ b ++ c ++ d ++ e ++ g ++ h ++ i ++ j) ≡ length a + length b + length c + length d + length e + length g + length h + length i + length j
nine_parts a b c d e g h i j = omega (arith, length-append (a ++ b ++ c ++ d ++ e ++ g ++ h ++ i) j, eight_parts a b c d e g h i)

commas-after : (room : ℕ) (texts : List (List ℕ)) → ((t : List ℕ) → Contains texts t → length t ≤ room) → length (flat_map (λ other. codes "," ++ other) texts) ≤ length texts * (room + 1)
commas-after room [] each = omega arith
commas-after room (t ∷ texts) each = omega (
  arith,
  length-append (codes "," ++ t) (flat_map (λ other. codes "," ++ other) texts),
  length-append (codes ",") t,
  each t (contains_here t texts),
  commas-after room texts (λ u has. each u (contains_there t texts u has)),
)

commas-length : (room : ℕ) (texts : List (List ℕ)) → ((t : List ℕ) → Contains texts t → length t ≤ room) → length (with_commas texts) ≤ length texts * (room + 1)
commas-length room [] each = omega arith
commas-length room (t ∷ texts) each = omega (
  arith,
  length-append t (flat_map (λ other. codes "," ++ other) texts),
  each t (contains_here t texts),
  commas-after room texts (λ u has. each u (contains_there t texts u has)),
)

primitive-few : (p : Primitive) → length (primitive_text p) ≤ 3
primitive-few Not = omega arith
primitive-few And = omega arith
primitive-few Or = omega arith
primitive-few Xor = omega arith
primitive-few Buf = omega arith

one_value : (pins : List NetWord) (k : ℕ) (values : List NetWord) → length values ≡ 2 ^ length pins → length (tree_values pins k values) ≡ 1
one_value [] k values long = omega (arith, long)
one_value (pin ∷ pins) k values long =
    let n = length values / 2 in
    let twice : 2 ^ suc (length pins) ≡ 2 * 2 ^ length pins = omega arith in
    let half : n ≡ 2 ^ length pins = omega (arith, long, twice) in
    one_value pins (k + n) (choice_nets k n) (nets-length k n ∙ half)

module _ (f : FlatNet) where
  -- what a word has at most
  abbrev room : ℕ
  room = longest_name f + 8

  abbrev IsShort : NetWord → Type 0
  IsShort word = length (word_text (stem_of f) word) ≤ room

  short_bit : (b : Bool) → IsShort (Bit b)
  short_bit true = omega arith
  short_bit false = omega arith

  short_name : (text : List ℕ) → Contains (texts_of f) text → IsShort (Named text)
  short_name text has = omega (arith, printed-length text, greatest (texts_of f) text has)

  short_cell : (k : ℕ) → k < most_filled_cells → IsShort (CellNet k)
  short_cell k few = omega (arith, length-append (stem_of f) (decimal k), stem-length f, length-decimal-le 7 k (omega arith) (omega (arith, few)) (omega (arith, few)))

  short_choice : (m : ℕ) → m < most_nets → IsShort (ChoiceNet m)
  short_choice m few = omega (
    arith,
    length-append (stem_of f ++ codes "t") (decimal m),
    length-append (stem_of f) (codes "t"),
    stem-length f,
    length-decimal-le 6 m (omega arith) (omega (arith, few)) (omega (arith, few)),
  )

  -- a line has short words, and is short itself

  abbrev HasShortWords : Line → Type 0
  HasShortWords line = All IsShort (line_words line)

  abbrev written : Line → ℕ
  written line = length (line_text (stem_of f) line)

  abbrev IsShortLine : Line → Type 0
  IsShortLine line = written line ≤ 18 + 4 * room

  words_short : (words : List NetWord) → All IsShort words → (t : List ℕ) → Contains (map (word_text (stem_of f)) words) t → length t ≤ room
  words_short words all t has = let at = from_map (word_text (stem_of f)) words t has in subst (λ u. length u ≤ room) at.2 (All-contains IsShort words at.0 all at.1)

  gate-length : (p : Primitive) (out : NetWord) (ins : List NetWord) → HasShortWords (Gate p out ins) → written (Gate p out ins) ≤ 7 + length (out ∷ ins) * (room + 1)
  gate-length p out ins all =
      let texts = map (word_text (stem_of f)) (out ∷ ins) in
      let count : length texts * (room + 1) ≡ length (out ∷ ins) * (room + 1) = ap (λ n. n * (room + 1)) (length-map (out ∷ ins) (word_text (stem_of f))) in
      let commas = commas-length room texts (words_short (out ∷ ins) all) in
      omega (arith, four_parts (primitive_text p) (codes "(") (with_commas texts) (codes ");\n"), primitive-few p, commas, count)

  gate_short : (p : Primitive) (out : NetWord) (ins : List NetWord) → length ins ≤ 2 → HasShortWords (Gate p out ins) → IsShortLine (Gate p out ins)
  gate_short p out ins few all = omega (arith, gate-length p out ins all, mul-le (length (out ∷ ins)) (room + 1) 3 (room + 1) (omega (arith, few)) (omega arith))

  assign_short : (left condition high low : NetWord) → HasShortWords (Assign left condition high low) → IsShortLine (Assign left condition high low)
  assign_short left condition high low all =
      let text = word_text (stem_of f) in
      let after = All-tail IsShort left (condition ∷ high ∷ low ∷ []) all in
      let last = All-tail IsShort condition (high ∷ low ∷ []) after in
      omega (
        arith,
        nine_parts (codes "assign ") (text left) (codes " = ") (text condition) (codes " ? ") (text high) (codes " : ") (text low) (codes ";\n"),
        All-head IsShort left (condition ∷ high ∷ low ∷ []) all,
        All-head IsShort condition (high ∷ low ∷ []) after,
        All-head IsShort high (low ∷ []) last,
        All-head IsShort low [] (All-tail IsShort high (low ∷ []) last),
      )

  edge-length : (falling : Bool) → length (if falling then codes "negedge " else codes "posedge ") ≡ 8
  edge-length true = refl
  edge-length false = refl

  always_short : (falling : Bool) (clock name : List ℕ) (word : NetWord) → HasShortWords (Always falling clock name word) → written (Always falling clock name word) ≤ 25 + 3 * room
  always_short falling clock name word all =
      let after = All-tail IsShort (Named clock) (Named name ∷ word ∷ []) all in
      omega (
        arith,
        eight_parts (codes "always @(") (if falling then codes "negedge " else codes "posedge ") (printed clock) (codes ") ") (printed name) (codes " <= ") (word_text (stem_of f) word) (codes ";\n"),
        edge-length falling,
        All-head IsShort (Named clock) (Named name ∷ word ∷ []) all,
        All-head IsShort (Named name) (word ∷ []) after,
        All-head IsShort word [] (All-tail IsShort (Named name) (word ∷ []) after),
      )

  -- the lines of cells

  halved_short : (pin : NetWord) (k : ℕ) (values : List NetWord) → All HasShortWords (halved pin k values) → All IsShortLine (halved pin k values)
  halved_short pin k [] all = All-nil IsShortLine
  halved_short pin k (v ∷ []) all = All-nil IsShortLine
  halved_short pin k (low ∷ high ∷ values) all =
      let line = Assign (ChoiceNet k) pin high low in
      let rest = halved pin (k + 1) values in
      All-cons IsShortLine line rest (assign_short (ChoiceNet k) pin high low (All-head HasShortWords line rest all)) (halved_short pin (k + 1) values (All-tail HasShortWords line rest all))

  tree_short : (pins : List NetWord) (k : ℕ) (values : List NetWord) → All HasShortWords (tree_lines pins k values) → All IsShortLine (tree_lines pins k values)
  tree_short [] k values all = All-nil IsShortLine
  tree_short (pin ∷ pins) k values all =
      let n = length values / 2 in
      let level = halved pin k values in
      let after = tree_lines pins (k + n) (choice_nets k n) in
      All-append IsShortLine level after (halved_short pin k values (all_left HasShortWords level after all)) (tree_short pins (k + n) (choice_nets k n) (all_right HasShortWords level after all))

  module _ (tables : List TableBits) (fits : TablesFit tables f.net.boxes) where
    one_gate : (p : Primitive) (out : NetWord) (ins : List NetWord) → length ins ≤ 2 → All HasShortWords (Gate p out ins ∷ []) → All IsShortLine (Gate p out ins ∷ [])
    one_gate p out ins few all = All-cons IsShortLine (Gate p out ins) [] (gate_short p out ins few (All-head HasShortWords (Gate p out ins) [] all)) (All-nil IsShortLine)

    cell_short : (k : ℕ) (c : Cell) → All HasShortWords (cell_lines f tables k c) → All IsShortLine (cell_lines f tables k c)
    cell_short k (cells.Const b) all = All-nil IsShortLine
    cell_short k (cells.Input i) all = All-nil IsShortLine
    cell_short k (cells.Not a) all = one_gate Not (CellNet k) (word_at f a ∷ []) (omega arith) all
    cell_short k (cells.And a b) all = one_gate And (CellNet k) (word_at f a ∷ word_at f b ∷ []) (omega arith) all
    cell_short k (cells.Or a b) all = one_gate Or (CellNet k) (word_at f a ∷ word_at f b ∷ []) (omega arith) all
    cell_short k (cells.Xor a b) all = one_gate Xor (CellNet k) (word_at f a ∷ word_at f b ∷ []) (omega arith) all
    cell_short k (cells.Mux c t e) all =
        let line = Assign (CellNet k) (word_at f c) (word_at f t) (word_at f e) in
        All-cons IsShortLine line [] (assign_short (CellNet k) (word_at f c) (word_at f t) (word_at f e) (All-head HasShortWords line [] all)) (All-nil IsShortLine)
    cell_short k (cells.BoxOut b p) all =
        let tree = pin_tree f tables k b p in
        let copy = pin_copy f tables k b p in
        let long = column-length (table_at tables b) p ∙ ap (λ n. 2 ^ n) (fits b ∙ sym (pins-length f b)) in
        let one = one_value (pin_words f b) (first_choice f k) (output_pin_words tables b p) long in
        All-append IsShortLine tree (copy ∷ []) (tree_short (pin_words f b) (first_choice f k) (output_pin_words tables b p) (all_left HasShortWords tree (copy ∷ []) all))
        (one_gate Buf (CellNet k) (tree_values (pin_words f b) (first_choice f k) (output_pin_words tables b p)) (omega (arith, one)) (all_right HasShortWords tree (copy ∷ []) all))

  -- texts of lines

  abbrev text_of : List Line → List ℕ
  text_of lines = flat_map (line_text (stem_of f)) lines

  both : (lines more : List Line) → length (text_of (lines ++ more)) ≡ length (text_of lines) + length (text_of more)
  both lines more = ap length (flat_map-append (line_text (stem_of f)) lines more) ∙ length-append (text_of lines) (text_of more)

  short_lines : (lines : List Line) → All IsShortLine lines → length (text_of lines) ≤ length lines * (18 + 4 * room)
  short_lines lines all = omega (arith, length-flat_map (line_text (stem_of f)) lines, sum_by-le written (18 + 4 * room) lines all)

  -- declarations of one name each
  declared-length : (line : List ℕ → Line) (c : ℕ) → ((name : List ℕ) → written (line name) ≤ length name + c) → (names : List (List ℕ)) → ((name : List ℕ) → Contains names name → Contains (texts_of f) name)
      → length (text_of (map line names)) ≤ length names * (longest_name f + c)
  declared-length line c each [] there = omega arith
  declared-length line c each (name ∷ names) there = omega (
    arith,
    length-append (line_text (stem_of f) (line name)) (text_of (map line names)),
    each name,
    greatest (texts_of f) name (there name (contains_here name names)),
    declared-length line c each names (λ other has. there other (contains_there name names other has)),
  )

  header-length : (ports : List (List ℕ)) → ((name : List ℕ) → Contains ports name → Contains (texts_of f) name) → written (Module ports) ≤ 17 + length ports * (longest_name f + 3)
  header-length ports there =
      let texts = map printed ports in
      let each = λ (t : List ℕ) (has : Contains texts t). short t (from_map printed ports t has) in
      let commas = commas-length (longest_name f + 2) texts each in
      let count : length texts * (longest_name f + 2 + 1) ≡ length ports * (longest_name f + 2 + 1) = ap (λ n. n * (longest_name f + 2 + 1)) (length-map ports printed) in
      omega (arith, three_parts (codes "module filled(") (with_commas texts) (codes ");\n"), commas, count)
    where
      short : (t : List ℕ) → (name : List ℕ) × Contains ports name × (printed name ≡ t) → length t ≤ longest_name f + 2
      short t (name, has, is) = omega (arith, ap length is, printed-length name, greatest (texts_of f) name (there name has))

  -- the lines of outputs, at most one each
  output-length : (o : ℕ) → All HasShortWords (output_lines f o) → length (text_of (output_lines f o)) ≤ 9 + 2 * room
  output-length o all = by (has_name (output_text f o) (state_texts f)) all
    where
      line : Line
      line = Gate Buf (Named (output_text f o)) (word_at f (slice_index f.net.outs o) ∷ [])

      by : (b : Bool) → All HasShortWords (if b then [] else line ∷ []) → length (text_of (if b then [] else line ∷ [])) ≤ 9 + 2 * room
      by true h = omega arith
      by false h = omega (
        arith,
        length-append (line_text (stem_of f) line) [],
        gate-length Buf (Named (output_text f o)) (word_at f (slice_index f.net.outs o) ∷ []) (All-head HasShortWords line [] h),
      )

  numbered-length : (g : ℕ → List Line) (c a n : ℕ) → ((k : ℕ) → k < a + n → length (text_of (g k)) ≤ c) → length (text_of (flat_map g (range_with_len a n))) ≤ n * c
  numbered-length g c a zero each = omega arith
  numbered-length g c a (suc n) each =
      omega (arith, both (g a) (flat_map g (range_with_len (a + 1) n)), each a (omega arith), numbered-length g c (a + 1) n (λ k within. each k (omega (arith, within))))

  registers-length : (r : ℕ) (registers : List Register) → All HasShortWords (register_lines f r registers) → length (text_of (register_lines f r registers)) ≤ length registers * (25 + 3 * room)
  registers-length r [] all = omega arith
  registers-length r (register ∷ registers) all = omega (
    arith,
    length-append (line_text (stem_of f) line) (text_of rest),
    always_short register.falling (unwrap_or (clock_text f register) []) register.text (next_word f r) (All-head HasShortWords line rest all),
    registers-length (r + 1) registers (All-tail HasShortWords line rest all),
  )
    where
      line : Line
      line = register_line f r register

      rest : List Line
      rest = register_lines f (r + 1) registers

module _ (f : FlatNet) (tables : List TableBits) (ready : IsReady f tables) (all : All (HasShortWords f) (filled_lines f tables)) where
  abbrev longest : ℕ
  longest = longest_name f

  abbrev of_cells : List Line
  of_cells = lines_of_cells f tables

  abbrev of_outputs : List Line
  of_outputs = lines_of_outputs f

  abbrev of_registers : List Line
  of_registers = register_lines f 0 f.regs

  input_there : (name : List ℕ) → Contains f.ins name → Contains (texts_of f) name
  input_there name has = Contains-append_left (f.ins ++ state_texts f) f.outs name (Contains-append_left f.ins (state_texts f) name has)

  register_there : (name : List ℕ) → Contains (state_texts f) name → Contains (texts_of f) name
  register_there name has = Contains-append_left (f.ins ++ state_texts f) f.outs name (Contains-append_right f.ins (state_texts f) name has)

  output_there : (name : List ℕ) → Contains f.outs name → Contains (texts_of f) name
  output_there name has = Contains-append_right (f.ins ++ state_texts f) f.outs name has

  port_there : (name : List ℕ) → Contains (f.ins ++ f.outs) name → Contains (texts_of f) name
  port_there name has = by (Contains-append_cases f.ins f.outs name has)
    where
      by : Contains f.ins name ⊎ Contains f.outs name → Contains (texts_of f) name
      by (inl input) = input_there name input
      by (inr output) = output_there name output

  header : length (line_text (stem_of f) (Module (f.ins ++ f.outs))) ≤ 17 + (length f.ins + length f.outs) * (longest + 3)
  header =
      let count : length (f.ins ++ f.outs) * (longest + 3) ≡ (length f.ins + length f.outs) * (longest + 3) = ap (λ n. n * (longest + 3)) (length-append f.ins f.outs) in
      omega (arith, header-length f (f.ins ++ f.outs) port_there, count)

  inputs : length (text_of f (map Input f.ins)) ≤ length f.ins * (longest + 10)
  inputs = declared-length f Input 10 (λ name. omega (arith, three_parts (codes "input ") (printed name) (codes ";\n"), printed-length name)) f.ins input_there

  outputs : length (text_of f (map Output f.outs)) ≤ length f.outs * (longest + 11)
  outputs = declared-length f Output 11 (λ name. omega (arith, three_parts (codes "output ") (printed name) (codes ";\n"), printed-length name)) f.outs output_there

  registers : length (text_of f (map Reg (state_texts f))) ≤ length f.regs * (longest + 8)
  registers =
      let count : length (state_texts f) * (longest + 8) ≡ length f.regs * (longest + 8) = ap (λ n. n * (longest + 8)) (length-map f.regs (λ (r : Register). r.text)) in
      omega (arith, declared-length f Reg 8 (λ name. omega (arith, three_parts (codes "reg ") (printed name) (codes ";\n"), printed-length name)) (state_texts f) register_there, count)

  lines_short : length (text_of f of_cells) ≤ length of_cells * (18 + 4 * (longest + 8))
  lines_short =
      short_lines f of_cells (all_of_numbers (IsShortLine f) (λ k. cell_lines f tables k (cell_at f.net.cells k)) (length f.net.cells)
      (λ k within. cell_short f tables (tables_fit tables f.net.boxes ready.fit) k (cell_at f.net.cells k) (part_of_cell (HasShortWords f) f tables all k within)))

  outputs_short : length (text_of f of_outputs) ≤ length f.outs * (9 + 2 * (longest + 8))
  outputs_short = numbered-length f (output_lines f) (9 + 2 * (longest + 8)) 0 (length f.outs) (λ o within. output-length f o (part_of_output (HasShortWords f) f tables all o (omega (arith, within))))

  registers_short : length (text_of f of_registers) ≤ length f.regs * (25 + 3 * (longest + 8))
  registers_short =
      let before = declarations f ++ of_cells ++ of_outputs in
      registers-length f 0 f.regs (all_right (HasShortWords f) before of_registers (all_left (HasShortWords f) (before ++ of_registers) (End ∷ []) all))

  whole : length (text_of f (filled_lines f tables)) ≤ 27 + (length f.ins + length f.regs + length f.outs + length of_cells) * (4 * (longest + 15))
  whole =
      let ports = Module (f.ins ++ f.outs) ∷ map Input f.ins in
      let last : length (text_of f (End ∷ [])) ≡ 10 = refl in
      omega (
        arith,
        both f (declarations f ++ of_cells ++ of_outputs ++ of_registers) (End ∷ []),
        both f (declarations f ++ of_cells ++ of_outputs) of_registers,
        both f (declarations f ++ of_cells) of_outputs,
        both f (declarations f) of_cells,
        both f (ports ++ map Output f.outs) (map Reg (state_texts f)),
        both f ports (map Output f.outs),
        length-append (line_text (stem_of f) (Module (f.ins ++ f.outs))) (text_of f (map Input f.ins)),
        last,
        header,
        inputs,
        outputs,
        registers,
        lines_short,
        outputs_short,
        registers_short,
      )

pub texts_are_short : WordsAreNets → TextsAreShort
texts_are_short nets f tables ready clocks few =
    let words = words_hold f tables ready few (IsShort f) (short_bit f) (short_name f) (short_cell f) (short_choice f) nets clocks in
    whole f tables ready (all_from (HasShortWords f) (filled_lines f tables) (λ line has. all_flat (IsShort f) line_words (filled_lines f tables) line has words))
