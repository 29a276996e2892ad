-- No line of a filled text begins with `t`: each is a line of Verilog, with one line feed, at its end, since no name has one.
use Rattle.std.proofs.Common.{◌≡◌, ◌≤◌, ◌<◌, ◌⊎◌, ℕ, suc, ◌+◌, ◌-◌, ◌/◌, Bool, true, false, if◌then◌else◌, List, [], ◌∷◌, ◌++◌, All, Contains, length, map, reverse, refl, sym, subst, inl, inr, arith}
use Rattle.std.specs.Prelude.{codes}
use Rattle.std.specs.List.{flat_map, range_with_len, slice_index_or}
use Rattle.std.specs.Option.{unwrap_or, option_and_then}
use Rattle.std.specs.Prelude.{Option, None, Some, slice_get, slice_index}
use Rattle.std.proofs.lemmas.Bool.{cases_lt}
use Rattle.std.proofs.lemmas.List.{get_or_past, get_or-reverse, length-reverse}
use Rattle.std.proofs.lemmas.Option.{get_or_from_slice_get}
use Rattle.std.proofs.lemmas.List.Elements.{Contains-append_right, All-append, All-cons, All-contains, All-get_or, All-map, All-nil, All-weaker}
use Rattle.bb_bits.specs.Earlier.{has_name}
use Rattle.bb_bits.specs.Names.{IsPrintable}
use Rattle.bb_bits.specs.Tables.{TableBits}
use Rattle.bb_lemmas.proofs.Members.{all_from, contains_here}
use Rattle.bb_net.specs.CutPoints.{clock_text, state_texts}
use Rattle.bb_net.specs.Flats.{FlatNet, IsFlat}
use Rattle.bb_net.specs.Netlists.{box_at, cell_at}
use Rattle.bb_net.specs.declared.cell.Cell.{Cell}
use Rattle.bb_net.specs.declared.cell.Cell.TheVariants as cells
use Rattle.bb_net.specs.declared.flat.Reg.{Reg as Register}
use Rattle.bb_fill.specs.Clashes.{IsClash, InputClashes, OutputClashes}
use Rattle.bb_fill.specs.Filled.{cell_lines, filled_lines, filled_text, first_choice, lines_of_cells, next_word, output_lines, output_text, output_pin_words, pin_words, register_line, register_lines}
use Rattle.bb_fill.specs.Lines.{Line, Primitive, Not, And, Or, Xor, Buf, Module, Input, Output, Reg, Gate, Assign, Always, End, with_commas, line_text, primitive_text}
use Rattle.bb_fill.specs.Trees.{choice_nets, halved, tree_lines, tree_values}
use Rattle.bb_fill.specs.Words.{NetWord, Bit, Named, CellNet, ChoiceNet, cell_word, maximum, leading, printed, stem_of, texts_of, word_at, word_text}
use Rattle.bb_verdict.proofs.LineBytes.{Goes, Quiet, chain, closes, decimal_quiet, nothing_quiet, quiet_printable, run_quiet, starts, within}

-- texts that are printed one after another

commas_quiet : (texts : List (List ℕ)) → All Quiet texts → Quiet (flat_map (λ other. codes "," ++ other) texts)
commas_quiet [] all = nothing_quiet
commas_quiet (text ∷ texts) all =
    chain (chain (within (codes ",") (λ rest is. is)) (All-contains Quiet (text ∷ texts) text all (contains_here text texts))) (commas_quiet texts (λ k d lt. all (suc k) d (omega (arith, lt))))

joined_quiet : (texts : List (List ℕ)) → All Quiet texts → Quiet (with_commas texts)
joined_quiet [] all = nothing_quiet
joined_quiet (text ∷ texts) all = chain (All-contains Quiet (text ∷ texts) text all (contains_here text texts)) (commas_quiet texts (λ k d lt. all (suc k) d (omega (arith, lt))))

printed_quiet : (name : List ℕ) → Quiet name → Quiet (printed name)
printed_quiet name quiet = chain (chain (within (codes "\\") (λ rest is. is)) quiet) (within (codes " ") (λ rest is. is))

-- what is printed of all
all_flat_lines : {A B : Type 0} (P : B → Type 0) (g : A → List B) → ((x : A) → All P (g x)) → (xs : List A) → All P (flat_map g xs)
all_flat_lines P g each [] = All-nil P
all_flat_lines P g each (x ∷ xs) = All-append P (g x) (flat_map g xs) (each x) (all_flat_lines P g each xs)

all_reversed : {A : Type 0} (P : A → Type 0) (xs : List A) → All P xs → All P (reverse xs)
all_reversed P xs all k d lt =
    let less : k < length xs = omega (arith, lt, length-reverse xs) in
    subst P (sym (get_or-reverse xs k d less)) (all (length xs - 1 - k) d (omega (arith, less)))

begins_apart : (gate : Primitive) → Goes true (primitive_text gate) false
begins_apart Not = starts (codes "not") (λ rest is. is)
begins_apart And = starts (codes "and") (λ rest is. is)
begins_apart Or = starts (codes "or") (λ rest is. is)
begins_apart Xor = starts (codes "xor") (λ rest is. is)
begins_apart Buf = starts (codes "buf") (λ rest is. is)

text_quiet : (texts : List (List ℕ)) → All Quiet texts → (i : ℕ) → Quiet (slice_index_or texts i [])
text_quiet texts all i = by (cases_lt i (length texts))
  where
    by : (i < length texts) ⊎ (length texts ≤ i) → Quiet (slice_index_or texts i [])
    by (inl h) = All-get_or Quiet texts i [] h all
    by (inr h) = subst Quiet (sym (get_or_past texts i [] h)) nothing_quiet

module _ (f : FlatNet) (flat : IsFlat f) where
  pub inputs_quiet : All Quiet f.ins
  inputs_quiet = All-weaker IsPrintable Quiet quiet_printable f.ins flat.printable.ins

  register_names : All (λ (r : Register). Quiet r.text) f.regs
  register_names = All-weaker (λ (r : Register). IsPrintable r.text) (λ (r : Register). Quiet r.text) (λ (r : Register). quiet_printable r.text) f.regs flat.printable.regs

  registers_quiet : All Quiet (state_texts f)
  registers_quiet = All-map Quiet (λ (r : Register). r.text) f.regs register_names

  clock_quiet : (clock : Option ℕ) → Quiet (unwrap_or (option_and_then (slice_get f.ins) clock) [])
  clock_quiet None = nothing_quiet
  clock_quiet (Some k) = by (slice_get f.ins k) refl
    where
      by : (o : Option (List ℕ)) → slice_get f.ins k ≡ o → Quiet (unwrap_or o [])
      by None e = nothing_quiet
      by (Some name) e = subst Quiet (get_or_from_slice_get f.ins k name [] e) (text_quiet f.ins inputs_quiet k)

  pub outputs_quiet : All Quiet f.outs
  outputs_quiet = All-weaker IsPrintable Quiet quiet_printable f.outs flat.printable.outs

  -- words

  abbrev IsQuietWord : NetWord → Type 0
  IsQuietWord word = Quiet (word_text (stem_of f) word)

  bit_quiet : (b : Bool) → IsQuietWord (Bit b)
  bit_quiet true = within (codes "1'b1") (λ rest is. is)
  bit_quiet false = within (codes "1'b0") (λ rest is. is)

  stem_quiet : Quiet (stem_of f)
  stem_quiet = run_quiet (maximum (map leading (texts_of f)) + 1)

  cell_quiet : (number : ℕ) → IsQuietWord (CellNet number)
  cell_quiet number = chain stem_quiet (decimal_quiet number)

  choice_quiet : (number : ℕ) → IsQuietWord (ChoiceNet number)
  choice_quiet number = chain (chain stem_quiet (within (codes "t") (λ rest is. is))) (decimal_quiet number)

  word_quiet : (number : ℕ) (cell : Cell) → IsQuietWord (cell_word f number cell)
  word_quiet number (cells.Const b) = bit_quiet b
  word_quiet number (cells.Input i) = printed_quiet _ (text_quiet (f.ins ++ state_texts f) (All-append Quiet f.ins (state_texts f) inputs_quiet registers_quiet) i)
  word_quiet number (cells.Not a) = cell_quiet number
  word_quiet number (cells.And a b) = cell_quiet number
  word_quiet number (cells.Or a b) = cell_quiet number
  word_quiet number (cells.Xor a b) = cell_quiet number
  word_quiet number (cells.Mux c t e) = cell_quiet number
  word_quiet number (cells.BoxOut b p) = cell_quiet number

  at_quiet : (number : ℕ) → IsQuietWord (word_at f number)
  at_quiet number = word_quiet number (cell_at f.net.cells number)

  -- lines

  abbrev IsWhole : Line → Type 0
  IsWhole line = Goes true (line_text (stem_of f) line) true

  gate_whole : (gate : Primitive) (out : NetWord) (ins : List NetWord) → IsQuietWord out → All IsQuietWord ins → IsWhole (Gate gate out ins)
  gate_whole gate out ins quiet all =
      let words = joined_quiet (map (word_text (stem_of f)) (out ∷ ins)) (All-map Quiet (word_text (stem_of f)) (out ∷ ins) (All-cons IsQuietWord out ins quiet all)) in
      chain (chain (chain (begins_apart gate) (within (codes "(") (λ rest is. is))) words) (closes (codes ");\n") (λ rest is. is))

  assign_whole : (left condition high low : NetWord) → IsQuietWord left → IsQuietWord condition → IsQuietWord high → IsQuietWord low → IsWhole (Assign left condition high low)
  assign_whole left condition high low l c h o =
      let begin = chain (chain (starts (codes "assign ") (λ rest is. is)) l) (within (codes " = ") (λ rest is. is)) in
      let chosen = chain (chain (chain (chain begin c) (within (codes " ? ") (λ rest is. is))) h) (within (codes " : ") (λ rest is. is)) in
      chain (chain chosen o) (closes (codes ";\n") (λ rest is. is))

  edge_quiet : (falling : Bool) → Quiet (if falling then codes "negedge " else codes "posedge ")
  edge_quiet true = within (codes "negedge ") (λ rest is. is)
  edge_quiet false = within (codes "posedge ") (λ rest is. is)

  always_whole : (falling : Bool) (clock name : List ℕ) (data_word : NetWord) → Quiet clock → Quiet name → IsQuietWord data_word → IsWhole (Always falling clock name data_word)
  always_whole falling clock name data_word c n d =
      let begin = chain (chain (chain (starts (codes "always @(") (λ rest is. is)) (edge_quiet falling)) (printed_quiet clock c)) (within (codes ") ") (λ rest is. is)) in
      chain (chain (chain (chain begin (printed_quiet name n)) (within (codes " <= ") (λ rest is. is))) d) (closes (codes ";\n") (λ rest is. is))

  -- declarations, each of which begins with a word of its own
  declared_whole : {begin : List ℕ} (name : List ℕ) → Goes true begin false → Quiet name → Goes true (begin ++ printed name ++ codes ";\n") true
  declared_whole name first quiet = chain (chain first (printed_quiet name quiet)) (closes (codes ";\n") (λ rest is. is))

  module_whole : (ports : List (List ℕ)) → All Quiet ports → IsWhole (Module ports)
  module_whole ports all =
      let names = joined_quiet (map printed ports) (All-map Quiet printed ports (All-weaker Quiet (λ name. Quiet (printed name)) printed_quiet ports all)) in
      chain (chain (starts (codes "module filled(") (λ rest is. is)) names) (closes (codes ");\n") (λ rest is. is))

  -- trees of choices

  choices_quiet : (number count : ℕ) → All IsQuietWord (choice_nets number count)
  choices_quiet number count = All-map IsQuietWord (λ i. ChoiceNet (number + i)) (range_with_len 0 count) (all_from _ (range_with_len 0 count) (λ i has. choice_quiet (number + i)))

  halved_whole : (pin : NetWord) (number : ℕ) (values : List NetWord) → IsQuietWord pin → All IsQuietWord values → All IsWhole (halved pin number values)
  halved_whole pin number [] quiet all = All-nil IsWhole
  halved_whole pin number (value ∷ []) quiet all = All-nil IsWhole
  halved_whole pin number (low ∷ high ∷ values) quiet all =
      All-cons IsWhole (Assign (ChoiceNet number) pin high low) (halved pin (number + 1) values)
      (assign_whole (ChoiceNet number) pin high low (choice_quiet number) quiet (all 1 low (omega arith)) (all 0 low (omega arith)))
      (halved_whole pin (number + 1) values quiet (λ k d lt. all (suc (suc k)) d (omega (arith, lt))))

  tree_whole : (pins : List NetWord) (number : ℕ) (values : List NetWord) → All IsQuietWord pins → All IsQuietWord values → All IsWhole (tree_lines pins number values)
  tree_whole [] number values quiet all = All-nil IsWhole
  tree_whole (pin ∷ pins) number values quiet all =
      All-append IsWhole (halved pin number values) (tree_lines pins (number + length values / 2) (choice_nets number (length values / 2)))
      (halved_whole pin number values (quiet 0 pin (omega arith)) all)
      (tree_whole pins (number + length values / 2) (choice_nets number (length values / 2)) (λ k d lt. quiet (suc k) d (omega (arith, lt))) (choices_quiet number (length values / 2)))

  tree_quiet : (pins : List NetWord) (number : ℕ) (values : List NetWord) → All IsQuietWord values → All IsQuietWord (tree_values pins number values)
  tree_quiet [] number values all = all
  tree_quiet (pin ∷ pins) number values all = tree_quiet pins (number + length values / 2) (choice_nets number (length values / 2)) (choices_quiet number (length values / 2))

  -- the parts of the text

  one : (line : Line) → IsWhole line → All IsWhole (line ∷ [])
  one line whole = All-cons IsWhole line [] whole (All-nil IsWhole)

  words_quiet : (places : List ℕ) → All IsQuietWord (map (word_at f) places)
  words_quiet places = All-map IsQuietWord (word_at f) places (all_from _ places (λ place has. at_quiet place))

  pins_quiet : (b : ℕ) → All IsQuietWord (pin_words f b)
  pins_quiet b = all_reversed IsQuietWord (map (word_at f) (box_at f.net.boxes b).ins) (words_quiet (box_at f.net.boxes b).ins)

  bits_quiet : (tables : List TableBits) (b p : ℕ) → All IsQuietWord (output_pin_words tables b p)
  bits_quiet tables b p = All-map IsQuietWord Bit _ (all_from _ _ (λ bit has. bit_quiet bit))

  gate_one : (gate : Primitive) (number : ℕ) (ins : List ℕ) → All IsWhole (Gate gate (CellNet number) (map (word_at f) ins) ∷ [])
  gate_one gate number ins = one _ (gate_whole gate (CellNet number) (map (word_at f) ins) (cell_quiet number) (words_quiet ins))

  cell_whole : (tables : List TableBits) (k : ℕ) (cell : Cell) → All IsWhole (cell_lines f tables k cell)
  cell_whole tables k (cells.Const b) = All-nil IsWhole
  cell_whole tables k (cells.Input i) = All-nil IsWhole
  cell_whole tables k (cells.Not a) = gate_one Not k (a ∷ [])
  cell_whole tables k (cells.And a b) = gate_one And k (a ∷ b ∷ [])
  cell_whole tables k (cells.Or a b) = gate_one Or k (a ∷ b ∷ [])
  cell_whole tables k (cells.Xor a b) = gate_one Xor k (a ∷ b ∷ [])
  cell_whole tables k (cells.Mux c t e) = one _ (assign_whole (CellNet k) (word_at f c) (word_at f t) (word_at f e) (cell_quiet k) (at_quiet c) (at_quiet t) (at_quiet e))
  cell_whole tables k (cells.BoxOut b p) =
      All-append IsWhole (tree_lines (pin_words f b) (first_choice f k) (output_pin_words tables b p)) _
      (tree_whole (pin_words f b) (first_choice f k) (output_pin_words tables b p) (pins_quiet b) (bits_quiet tables b p))
      (one _ (gate_whole Buf (CellNet k) (tree_values (pin_words f b) (first_choice f k) (output_pin_words tables b p)) (cell_quiet k) (tree_quiet (pin_words f b) (first_choice f k) (output_pin_words tables b p) (bits_quiet tables b p))))

  registers_whole : (r : ℕ) (registers : List Register) → All (λ (q : Register). Quiet q.text) registers → All IsWhole (register_lines f r registers)
  registers_whole r [] all = All-nil IsWhole
  registers_whole r (register ∷ registers) all =
      All-cons IsWhole (register_line f r register) (register_lines f (r + 1) registers)
      (always_whole register.falling (unwrap_or (clock_text f register) []) register.text (next_word f r) (clock_quiet register.clock) (all 0 register (omega arith)) (at_quiet _))
      (registers_whole (r + 1) registers (λ k d lt. all (suc k) d (omega (arith, lt))))

  output_whole : (o : ℕ) → All IsWhole (output_lines f o)
  output_whole o = by (has_name (output_text f o) (state_texts f))
    where
      by : (b : Bool) → All IsWhole (if b then [] else Gate Buf (Named (output_text f o)) (word_at f (slice_index f.net.outs o) ∷ []) ∷ [])
      by true = All-nil IsWhole
      by false = one _ (gate_whole Buf (Named (output_text f o)) (word_at f (slice_index f.net.outs o) ∷ []) (printed_quiet _ (text_quiet f.outs outputs_quiet o)) (words_quiet (slice_index f.net.outs o ∷ [])))

  record AreWhole (lines : List Line) : Type 0 where
    pub each : All IsWhole lines

  with_lines : {lines : List Line} (more : List Line) → AreWhole lines → All IsWhole more → AreWhole (lines ++ more)
  with_lines {lines} more first next = record { each = All-append IsWhole lines more first.each next }

  lines_whole : (tables : List TableBits) → All IsWhole (filled_lines f tables)
  lines_whole tables =
      let inputs = All-map IsWhole Input f.ins (All-weaker Quiet _ (λ name. declared_whole name (starts (codes "input ") (λ rest is. is))) f.ins inputs_quiet) in
      let begin : AreWhole (Module (f.ins ++ f.outs) ∷ map Input f.ins) = record { each = All-cons IsWhole (Module (f.ins ++ f.outs)) (map Input f.ins) (module_whole (f.ins ++ f.outs) (All-append Quiet f.ins f.outs inputs_quiet outputs_quiet)) inputs } in
      let outputs = with_lines (map Output f.outs) begin (All-map IsWhole Output f.outs (All-weaker Quiet _ (λ name. declared_whole name (starts (codes "output ") (λ rest is. is))) f.outs outputs_quiet)) in
      let registers = with_lines (map Reg (state_texts f)) outputs (All-map IsWhole Reg (state_texts f) (All-weaker Quiet _ (λ name. declared_whole name (starts (codes "reg ") (λ rest is. is))) (state_texts f) registers_quiet)) in
      let gates = with_lines (lines_of_cells f tables) registers (all_flat_lines IsWhole _ (λ k. cell_whole tables k (cell_at f.net.cells k)) (range_with_len 0 (length f.net.cells))) in
      let copies = with_lines (flat_map (output_lines f) (range_with_len 0 (length f.outs))) gates (all_flat_lines IsWhole (output_lines f) output_whole (range_with_len 0 (length f.outs))) in
      let taken = with_lines (register_lines f 0 f.regs) copies (registers_whole 0 f.regs register_names) in
      (with_lines (End ∷ []) taken (one End (record { on = λ rest is. is }))).each

  text_goes : (lines : List Line) → All IsWhole lines → Goes true (flat_map (line_text (stem_of f)) lines) true
  text_goes [] all = record { on = λ rest is. is }
  text_goes (line ∷ lines) all = chain (All-contains IsWhole (line ∷ lines) line all (contains_here line lines)) (text_goes lines (λ k d lt. all (suc k) d (omega (arith, lt))))

  pub filled_goes : (tables : List TableBits) → Goes true (filled_text f tables) true
  filled_goes tables = text_goes (filled_lines f tables) (lines_whole tables)

  -- a name that clashes
  pub clash_quiet : (name : List ℕ) → IsClash f name → Quiet name
  clash_quiet name (InputClashes first) =
      All-contains Quiet f.ins name inputs_quiet (subst (λ all. Contains all name) (sym first.occurs) (Contains-append_right first.before (name ∷ first.after) name (0, omega arith, refl)))
  clash_quiet name (OutputClashes o apart first same) = subst Quiet (sym same) (text_quiet f.outs outputs_quiet o)
