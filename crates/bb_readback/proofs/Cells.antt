-- How many cells the filled text makes: one for each gate and each choice of the netlist's cells. Copies, and registers, make none.
use Rattle.std.proofs.Common.{◌≡◌, ◌∙◌, ℕ, ◌+◌, Bool, true, false, if◌then◌else◌, List, [], ◌∷◌, ◌++◌, length, map, filter, flat_map, sum_by, All, refl, sym, ap, ap₂, arith}
use Rattle.std.specs.Prelude.{slice_index}
use Rattle.std.specs.List.{range_with_len}
use Rattle.std.proofs.lemmas.List.{map-append}
use Rattle.std.proofs.lemmas.List.Elements.{All-cons, All-head, All-nil, All-tail}
use Rattle.std.proofs.lemmas.List.Sums.{sum_by-append, sum_by-cons}
use Rattle.bb_bits.specs.Earlier.{has_name}
use Rattle.bb_bits.specs.Tables.{TableBits}
use Rattle.bb_expr.specs.Cells.{MadeTerms}
use Rattle.bb_net.specs.declared.flat.Reg.{Reg as NetRegister}
use Rattle.bb_net.specs.CutPoints.{state_texts}
use Rattle.bb_net.specs.Flats.{FlatNet}
use Rattle.bb_fill.specs.Words.{NetWord, Named, stem_of, word_at}
use Rattle.bb_fill.specs.Lines.{Line, Primitive, Not, And, Or, Xor, Buf, Module, Input, Output, Reg, Gate, Assign, Always, End}
use Rattle.bb_fill.specs.Filled.{filled_lines, lines_of_cells, output_lines, output_text, register_line, register_lines}
use Rattle.bb_fill.specs.Laws.{IsReady}
use Rattle.bb_fill.specs.Sizes.{makes_cell}
use Rattle.bb_readback.specs.Laws.Modules.{expression_of, gate_of}
use Rattle.bb_design.specs.Hierarchy.{Scope, root}
use Rattle.bb_design.specs.Constructs.{Construct, Assignment, GateInstance, Register, parts}
use Rattle.bb_design.specs.Contexts.{made_in, width_of}
use Rattle.bb_design.specs.GateFunctions.{gate_cells}
use Rattle.bb_design.specs.Sizes.{cell_count_at}
use Rattle.bb_readback.specs.Laws.Designs.{filled_design}
use Rattle.bb_readback.proofs.Formed.{IsFormed, are_formed, declared_all}
use Rattle.bb_readback.proofs.Forms.{IsDriving, Takes, all_flat, cells_driving, declared_lines, driving_lines, lines_are, storing_lines}
use Rattle.bb_readback.proofs.Meanings.{always_of, constructs_of, term_of}
use Rattle.bb_readback.proofs.Parts.{alone_made, choice_made, parts_are, register_made, terms_are}
use Rattle.bb_readback.proofs.WordSites.{choice_of}

-- how many cells a line makes
abbrev cells_of : Line → ℕ
cells_of (Gate primitive out ins) = if makes_cell (Gate primitive out ins) then 1 else 0
cells_of (Assign left condition high low) = 1
cells_of line = 0

gate_makes : (stem : List ℕ) (primitive : Primitive) (out : NetWord) (ins : List NetWord) → Takes primitive ins
    → length (gate_cells (gate_of primitive) (map (term_of stem) ins)) ≡ cells_of (Gate primitive out ins)
gate_makes stem Not out ins (v, e) = ap (λ l. length (gate_cells (gate_of Not) (map (term_of stem) l))) e
gate_makes stem Buf out ins (v, e) = ap (λ l. length (gate_cells (gate_of Buf) (map (term_of stem) l))) e
gate_makes stem And out ins (v, w, e) = ap (λ l. length (gate_cells (gate_of And) (map (term_of stem) l))) e
gate_makes stem Or out ins (v, w, e) = ap (λ l. length (gate_cells (gate_of Or) (map (term_of stem) l))) e
gate_makes stem Xor out ins (v, w, e) = ap (λ l. length (gate_cells (gate_of Xor) (map (term_of stem) l))) e

-- lines that make none

abbrev MakesNone : Line → Type 0
MakesNone line = cells_of line ≡ 0

none_made : (lines : List Line) → All MakesNone lines → sum_by cells_of lines ≡ 0
none_made [] none = refl
none_made (line ∷ lines) none =
    sum_by-cons cells_of line lines
    ∙ ap₂ ◌+◌ (All-head MakesNone line lines none) (none_made lines (All-tail MakesNone line lines none))

registers_make_none : (f : FlatNet) (k : ℕ) (registers : List NetRegister) → All MakesNone (register_lines f k registers)
registers_make_none f k [] = All-nil MakesNone
registers_make_none f k (r ∷ rs) = All-cons MakesNone (register_line f k r) (register_lines f (k + 1) rs) refl (registers_make_none f (k + 1) rs)

output_makes_none : (f : FlatNet) (o : ℕ) → All MakesNone (output_lines f o)
output_makes_none f o = by (has_name (output_text f o) (state_texts f))
  where
    copy : Line
    copy = Gate Buf (Named (output_text f o)) (word_at f (slice_index f.net.outs o) ∷ [])

    by : (b : Bool) → All MakesNone (if b then [] else copy ∷ [])
    by true = All-nil MakesNone
    by false = All-cons MakesNone copy [] refl (All-nil MakesNone)

-- gates and choices

driving_makes : (line : Line) → IsDriving line → cells_of line ≡ (if makes_cell line then 1 else 0)
driving_makes (Gate primitive out ins) driving = refl
driving_makes (Assign left condition high low) driving = refl
driving_makes (Module ports) driving = absurd driving
driving_makes (Input name) driving = absurd driving
driving_makes (Output name) driving = absurd driving
driving_makes (Reg name) driving = absurd driving
driving_makes (Always falling clock name data_word) driving = absurd driving
driving_makes End driving = absurd driving

driving_make : (lines : List Line) → All IsDriving lines → sum_by cells_of lines ≡ length (filter makes_cell lines)
driving_make [] driving = refl
driving_make (line ∷ lines) driving =
    sum_by-cons cells_of line lines
    ∙ ap₂ ◌+◌ (driving_makes line (All-head IsDriving line lines driving)) (driving_make lines (All-tail IsDriving line lines driving))
    ∙ by (makes_cell line)
  where
    by : (b : Bool) → (if b then 1 else 0) + length (filter makes_cell lines) ≡ length (if b then line ∷ filter makes_cell lines else filter makes_cell lines)
    by true = omega arith
    by false = omega arith

module _ (f : FlatNet) (tables : List TableBits) (ready : IsReady f tables) where
  abbrev scope : Scope
  scope = root (filled_design f tables)

  abbrev stem : List ℕ
  stem = stem_of f

  abbrev placed : List Construct → List (Scope × Construct)
  placed constructs = map (λ c. (scope, c)) constructs

  operands_make_none : (words : List NetWord) → flat_map (λ e. (made_in scope e (width_of scope e)).cells) (map (expression_of stem) words) ≡ []
  operands_make_none [] = refl
  operands_make_none (w ∷ words) = ap₂ (λ (made : MadeTerms) l. made.cells ++ l) (alone_made f tables ready w) (operands_make_none words)

  one_makes : (c : Construct) (n : ℕ) → cell_count_at (scope, c) ≡ n → sum_by cell_count_at (placed (c ∷ [])) ≡ n
  one_makes c n e = ap (λ k. 0 + k) e ∙ omega arith

  line_makes : (line : Line) → IsFormed line → sum_by cell_count_at (placed (constructs_of stem line)) ≡ cells_of line
  line_makes (Gate primitive out ins) formed =
      one_makes (GateInstance (gate_of primitive) (expression_of stem out ∷ []) (map (expression_of stem) ins)) (cells_of (Gate primitive out ins))
      (ap₂ (λ operands terms. length (operands ++ gate_cells (gate_of primitive) terms)) (operands_make_none ins) (terms_are f tables ready ins)
      ∙ gate_makes stem primitive out ins formed.1)
  line_makes (Assign left condition high low) formed =
      one_makes (Assignment (expression_of stem left) (choice_of stem condition high low)) 1
      (ap (λ (made : MadeTerms). length made.cells) (choice_made f tables ready left condition high low))
  line_makes (Always falling clock name data_word) formed =
      one_makes (Register (always_of stem falling clock name data_word)) 0 (ap (λ (made : MadeTerms). length made.cells) (register_made f tables ready name data_word))
  line_makes (Module ports) formed = refl
  line_makes (Input name) formed = refl
  line_makes (Output name) formed = refl
  line_makes (Reg name) formed = refl
  line_makes End formed = refl

  lines_make : (lines : List Line) → All IsFormed lines → sum_by cell_count_at (placed (flat_map (constructs_of stem) lines)) ≡ sum_by cells_of lines
  lines_make [] formed = refl
  lines_make (line ∷ lines) formed =
      ap (sum_by cell_count_at) (map-append (λ (c : Construct). (scope, c)) (constructs_of stem line) (flat_map (constructs_of stem) lines))
      ∙ sum_by-append cell_count_at (placed (constructs_of stem line)) (placed (flat_map (constructs_of stem) lines))
      ∙ ap₂ ◌+◌ (line_makes line (All-head IsFormed line lines formed)) (lines_make lines (All-tail IsFormed line lines formed))
      ∙ sym (sum_by-cons cells_of line lines)

  pub cells_are_counted : sum_by cell_count_at (parts (filled_design f tables)) ≡ length (filter makes_cell (lines_of_cells f tables))
  cells_are_counted =
      let outputs = flat_map (output_lines f) (range_with_len 0 (length f.outs)) in
      let prefix = declared_lines f ++ driving_lines f tables in
      let back = storing_lines f ++ End ∷ [] in
      let cells = driving_make (lines_of_cells f tables) (cells_driving f tables ready) in
      let none = none_made (declared_lines f) (declared_all MakesNone f refl (λ n. refl) (λ n. refl) (λ n. refl)) in
      let copies = none_made outputs (all_flat MakesNone (output_lines f) (range_with_len 0 (length f.outs)) (output_makes_none f)) in
      let stored = none_made (storing_lines f) (registers_make_none f 0 f.regs) in
      ap (sum_by cell_count_at) (parts_are f tables ready)
      ∙ lines_make (filled_lines f tables) (are_formed f tables ready)
      ∙ ap (sum_by cells_of) (lines_are f tables)
      ∙ omega (
        arith,
        none,
        cells,
        copies,
        stored,
        sum_by-append cells_of prefix back,
        sum_by-append cells_of (declared_lines f) (driving_lines f tables),
        sum_by-append cells_of (lines_of_cells f tables) outputs,
        sum_by-append cells_of (storing_lines f) (End ∷ []),
      )
