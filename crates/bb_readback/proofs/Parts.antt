-- The design of the filled text, line by line: what is in it, and what drives its bits.
use Rattle.std.proofs.Common.{◌≡◌, ◌∙◌, ℕ, false, List, [], ◌∷◌, ◌++◌, append-nil, length, map, flat_map, max, refl, sym, ap, ap₂, subst}
use Rattle.std.proofs.lemmas.List.Elements.{All-weaker}
use Rattle.std.proofs.lemmas.List.Folds.{flat_map-map}
use Rattle.bb_bits.specs.Bits.{low_bits}
use Rattle.bb_bits.specs.Tables.{TableBits}
use Rattle.bb_ast.specs.Syntax.{Net, PlainModule}
use Rattle.bb_names.specs.Ranges.{range_width}
use Rattle.bb_expr.specs.Cells.{arm_made, net_terms, without_cells}
use Rattle.bb_expr.specs.Lists.{extended}
use Rattle.bb_expr.specs.Terms as term
use Rattle.bb_net.specs.Flats.{FlatNet}
use Rattle.bb_fill.specs.Words.{NetWord, Bit, Named, CellNet, ChoiceNet, stem_of}
use Rattle.bb_fill.specs.Lines.{Line, Primitive, Not, And, Or, Xor, Buf, Module, Input, Output, Reg, Gate, Assign, Always, End}
use Rattle.bb_fill.specs.Filled.{filled_lines}
use Rattle.bb_fill.specs.Laws.{IsReady}
use Rattle.bb_readback.specs.Laws.Modules.{bodies_of, expression_of, filled_module, gate_of}
use Rattle.bb_design.specs.Hierarchy.{Scope, root}
use Rattle.bb_design.specs.NetBits.{bits_from, written_bits}
use Rattle.bb_design.specs.Contexts.{context_width, made_in, width_of}
use Rattle.bb_design.specs.Constructs.{Construct, body_constructs, constructs_at, parts}
use Rattle.bb_design.specs.Drivers.{Free, MadeOf, driven, driven_by, drives, drives_at, terminal_terms}
use Rattle.bb_design.specs.GateFunctions.{gate_gives, on_terms}
use Rattle.bb_lemmas.proofs.Maps.{map-twice}
use Rattle.bb_readback.specs.Laws.Designs.{filled_design}
use Rattle.bb_readback.proofs.Formed.{IsFormed, are_formed}
use Rattle.bb_readback.proofs.Forms.{IsNet}
use Rattle.bb_readback.proofs.Items.{flat_items, module_declares}
use Rattle.bb_readback.proofs.Meanings.{bit_named, bit_of_word, constructs_of, drives_of, name_of, term_of}
use Rattle.bb_readback.proofs.Nets.{one_scope, top_inputs_are}
use Rattle.bb_readback.proofs.Meant.{Declares}
use Rattle.bb_readback.proofs.MeantNames.{no_range}
use Rattle.bb_readback.proofs.Sifted.{flat_flat, flat_same}
use Rattle.bb_readback.proofs.WordSites.{choice_of, net_width, word_width}

-- the constructs of a line of this form
abbrev IsItsConstruct : List PlainModule → List ℕ → Primitive → NetWord → List NetWord → Type 0
IsItsConstruct text stem primitive out ins =
    flat_map (body_constructs text) (bodies_of stem (Gate primitive out ins)) ≡ constructs_of stem (Gate primitive out ins)

line_constructs : (text : List PlainModule) (stem : List ℕ) (line : Line) → IsFormed line
    → flat_map (body_constructs text) (bodies_of stem line) ≡ constructs_of stem line
line_constructs text stem (Gate Not out ins) (net, (v, e)) = subst (IsItsConstruct text stem Not out) (sym e) refl
line_constructs text stem (Gate Buf out ins) (net, (v, e)) = subst (IsItsConstruct text stem Buf out) (sym e) refl
line_constructs text stem (Gate And out ins) formed = refl
line_constructs text stem (Gate Or out ins) formed = refl
line_constructs text stem (Gate Xor out ins) formed = refl
line_constructs text stem (Assign left condition high low) formed = refl
line_constructs text stem (Always falling clock name data_word) formed = refl
line_constructs text stem (Module ports) formed = refl
line_constructs text stem (Input name) formed = refl
line_constructs text stem (Output name) formed = refl
line_constructs text stem (Reg name) formed = refl
line_constructs text stem End formed = refl

module _ (f : FlatNet) (tables : List TableBits) (ready : IsReady f tables) where
  abbrev here : PlainModule
  here = filled_module f tables

  abbrev stem : List ℕ
  stem = stem_of f

  abbrev lines : List Line
  lines = filled_lines f tables

  abbrev pub scope : Scope
  scope = root (filled_design f tables)

  declares : Declares here f
  declares = module_declares f tables ready

  pub parts_are : parts (filled_design f tables) ≡ map (λ c. (root (filled_design f tables), c)) (flat_map (constructs_of (stem_of f)) (filled_lines f tables))
  parts_are =
      let text = here ∷ [] in
      let placed = λ (s : Scope). map (λ (c : Construct). (s, c)) (constructs_at text s) in
      let all = λ (line : Line). flat_map (body_constructs text) (bodies_of stem line) in
      let formed = All-weaker IsFormed (λ line. all line ≡ constructs_of stem line) (line_constructs text stem) lines (are_formed f tables ready) in
      ap (flat_map placed) (one_scope f tables)
      ∙ append-nil (placed scope)
      ∙ ap (map (λ (c : Construct). (scope, c))) (flat_items (body_constructs text) stem 1 lines ∙ flat_same all (constructs_of stem) lines formed)

  -- what is made of the parts is made of the lines
  pub parts_give : {A : Type 0} (g : Scope × Construct → List A)
      → flat_map g (parts (filled_design f tables)) ≡ flat_map (λ line. flat_map (λ c. g (scope, c)) (constructs_of stem line)) lines
  parts_give g =
      ap (flat_map g) parts_are
      ∙ flat_map-map g (λ (c : Construct). (scope, c)) (flat_map (constructs_of stem) lines)
      ∙ flat_flat (constructs_of stem) (λ c. g (scope, c)) lines

  -- a net that is written, and one that is read

  pub net_written : (n : List ℕ) → written_bits scope (Net n) ≡ bit_named n ∷ []
  net_written n = ap (λ r. bits_from [] n 0 (range_width r)) (no_range here f declares n)

  net_made : (n : List ℕ) → made_in scope (Net n) 1 ≡ without_cells (term.Net n 0 ∷ [])
  net_made n = ap (λ r. without_cells (extended (term.Const false) 1 (net_terms n 0 (range_width r)))) (no_range here f declares n)

  -- so it is with words

  pub word_written : (word : NetWord) → IsNet word → written_bits scope (expression_of stem word) ≡ bit_of_word stem word ∷ []
  word_written (Bit b) net = absurd net
  word_written (Named name) net = net_written name
  word_written (CellNet k) net = net_written (name_of stem (CellNet k))
  word_written (ChoiceNet k) net = net_written (name_of stem (ChoiceNet k))

  word_made : (word : NetWord) → made_in scope (expression_of stem word) 1 ≡ without_cells (term_of stem word ∷ [])
  word_made (Bit b) = refl
  word_made (Named name) = net_made name
  word_made (CellNet k) = net_made (name_of stem (CellNet k))
  word_made (ChoiceNet k) = net_made (name_of stem (ChoiceNet k))

  -- an operand by itself
  pub alone_made : (word : NetWord) → made_in scope (expression_of stem word) (width_of scope (expression_of stem word)) ≡ without_cells (term_of stem word ∷ [])
  alone_made word = ap (made_in scope (expression_of stem word)) (word_width [] here f declares stem word) ∙ word_made word

  pub terms_are : (words : List NetWord) → terminal_terms scope (map (expression_of stem) words) ≡ map (term_of stem) words
  terms_are [] = refl
  terms_are (w ∷ words) = ap₂ (λ made l. made.bits ++ l) (alone_made w) (terms_are words)

  -- a choice, on the right of an assignment to a word
  pub choice_made : (left condition high low : NetWord)
      → let choice = term.Mux (term_of stem condition) (term_of stem high) (term_of stem low) in
      made_in scope (choice_of stem condition high low) (context_width scope (expression_of stem left) (choice_of stem condition high low))
      ≡ record { bits = choice ∷ []; cells = choice ∷ [] }
  choice_made left condition high low =
      let width = λ (word : NetWord). word_width [] here f declares stem word in
      let context = ap₂ max (width left) (ap₂ (λ h l. max (max h 0) l) (width high) (width low)) in
      ap (made_in scope (choice_of stem condition high low)) context
      ∙ ap₂ (λ c h. arm_made c h (made_in scope (expression_of stem low) 1)) (alone_made condition) (word_made high)
      ∙ ap (arm_made (without_cells (term_of stem condition ∷ [])) (without_cells (term_of stem high ∷ []))) (word_made low)

  -- what a register takes
  pub register_made : (name : List ℕ) (data_word : NetWord)
      → made_in scope (expression_of stem data_word) (context_width scope (Net name) (expression_of stem data_word)) ≡ without_cells (term_of stem data_word ∷ [])
  register_made name data_word =
      let context = ap₂ max (net_width [] here f declares name) (word_width [] here f declares stem data_word) in
      ap (made_in scope (expression_of stem data_word)) context ∙ word_made data_word

  line_drives : (line : Line) → IsFormed line → flat_map (λ c. drives_at (scope, c)) (constructs_of stem line) ≡ drives_of stem line
  line_drives (Gate primitive out ins) formed =
      ap₂ (λ bits terms. map (driven (MadeOf [] (gate_gives on_terms (gate_of primitive) terms))) (bits ++ []) ++ [])
      (word_written out formed.0) (terms_are ins)
  line_drives (Assign left condition high low) formed =
      ap₂ (λ bits made. driven_by [] bits (low_bits (length bits) made.bits) ++ []) (word_written left formed) (choice_made left condition high low)
  line_drives (Always falling clock name data_word) formed = ap (λ bits. map (driven Free) bits ++ []) (net_written name)
  line_drives (Module ports) formed = refl
  line_drives (Input name) formed = refl
  line_drives (Output name) formed = refl
  line_drives (Reg name) formed = refl
  line_drives End formed = refl

  pub drives_are : drives (filled_design f tables) ≡ map (λ n. driven Free (bit_named n)) f.ins ++ flat_map (drives_of (stem_of f)) (filled_lines f tables)
  drives_are =
      let all = λ (line : Line). flat_map (λ c. drives_at (scope, c)) (constructs_of stem line) in
      let formed = All-weaker IsFormed (λ line. all line ≡ drives_of stem line) line_drives lines (are_formed f tables ready) in
      ap₂ ◌++◌ (ap (map (driven Free)) (top_inputs_are f tables ready) ∙ map-twice bit_named (driven Free) f.ins)
      (parts_give drives_at ∙ flat_same all (drives_of stem) lines formed)
