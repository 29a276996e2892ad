-- Each bit that is read is driven: what is read is an output of the netlist or a word of a line, and so is what is copied.
use Rattle.std.proofs.Common.{◌≡◌, ◌∙◌, ◌⊎◌, inl, inr, ℕ, max, Bool, List, [], ◌∷◌, ◌++◌, append-nil, length, map, flat_map, Contains, refl, sym, ap, ap₂, subst}
use Rattle.std.proofs.lemmas.List.Elements.{All-contains, Contains-append_cases, Contains-append_right}
use Rattle.bb_bits.specs.Bits.{low_bits}
use Rattle.bb_bits.specs.Closures.{Leads, More, One}
use Rattle.bb_bits.specs.Tables.{TableBits}
use Rattle.bb_ast.specs.Syntax.{Net}
use Rattle.bb_expr.specs.Cells.{without_cells}
use Rattle.bb_expr.specs.Terms.{Term}
use Rattle.bb_net.specs.Flats.{FlatNet, HaveClocks}
use Rattle.bb_fill.specs.Words.{NetWord, Named, stem_of}
use Rattle.bb_fill.specs.Lines.{Line, Primitive, Not, And, Or, Xor, Buf, Module, Input, Output, Reg, Gate, Assign, Always, End}
use Rattle.bb_fill.specs.Filled.{filled_lines}
use Rattle.bb_fill.specs.Laws.{IsReady, WordsAreNets, line_reads, line_words}
use Rattle.bb_readback.specs.Laws.Modules.{expression_of, filled_module, gate_of}
use Rattle.bb_design.specs.Constructs.{parts}
use Rattle.bb_design.specs.Contexts.{context_width, made_in, width_of}
use Rattle.bb_design.specs.Drivers.{Drive, drives, driven_bits}
use Rattle.bb_design.specs.GateFunctions.{gate_cells}
use Rattle.bb_design.specs.Hierarchy.{Design, Scope, root}
use Rattle.bb_design.specs.NetBits.{Bit as NetBit, top_outputs}
use Rattle.bb_design.specs.Reading.{bit_itself, copied, copied_bits, operand_terms, read_at, read_directly}
use Rattle.bb_design.specs.Refusals.{AreDriven}
use Rattle.bb_design.specs.Registers.{data_terms}
use Rattle.bb_lemmas.proofs.Members.{contains-map, contains_cases, contains_here, contains_there, from_flat, from_map, into_flat, none_in_nil}
use Rattle.bb_readback.specs.Laws.Designs.{filled_design}
use Rattle.bb_readback.proofs.DrivenBits.{line_of_drive, word_driven}
use Rattle.bb_readback.proofs.Formed.{IsFormed, are_formed}
use Rattle.bb_readback.proofs.Forms.{Takes}
use Rattle.bb_readback.proofs.Items.{module_declares}
use Rattle.bb_readback.proofs.LineBits.{bit_of_some, bits_of, copied_needed, line_needs}
use Rattle.bb_readback.proofs.Meanings.{always_of, bit_named, constructs_of, term_of}
use Rattle.bb_readback.proofs.Nets.{top_outputs_are}
use Rattle.bb_readback.proofs.Parts.{alone_made, choice_made, net_written, parts_give, terms_are}
use Rattle.bb_readback.proofs.WordSites.{net_width, word_width}

-- what is read of cells
abbrev read_by : List Term → List NetBit
read_by cells = flat_map (λ cell. flat_map (bit_itself []) (operand_terms cell)) cells

-- the cells of a gate read its inputs; a buf has none

abbrev GateReads : List ℕ → Primitive → List NetWord → Type 0
GateReads stem primitive ins = (b : NetBit) → Contains (read_by (gate_cells (gate_of primitive) (map (term_of stem) ins))) b → Contains (bits_of stem ins) b

pub gate_reads : (stem : List ℕ) (primitive : Primitive) (ins : List NetWord) → Takes primitive ins → GateReads stem primitive ins
gate_reads stem primitive ins takes = by primitive takes
  where
    same : (words : List NetWord) (b : NetBit) → Contains (bits_of stem words ++ []) b → Contains (bits_of stem words) b
    same words b has = subst (λ l. Contains l b) (append-nil (bits_of stem words)) has

    by : (p : Primitive) → Takes p ins → GateReads stem p ins
    by Not (v, e) = subst (GateReads stem Not) (sym e) (same (v ∷ []))
    by And (v, w, e) = subst (GateReads stem And) (sym e) (same (v ∷ w ∷ []))
    by Or (v, w, e) = subst (GateReads stem Or) (sym e) (same (v ∷ w ∷ []))
    by Xor (v, w, e) = subst (GateReads stem Xor) (sym e) (same (v ∷ w ∷ []))
    by Buf (v, e) = subst (GateReads stem Buf) (sym e) (λ b has. absurd (none_in_nil b has))

-- what a line reads are some of its words
reads_among : (line : Line) (word : NetWord) → Contains (line_reads line) word → Contains (line_words line) word
reads_among (Gate primitive out ins) word has = contains_there out ins word has
reads_among (Assign left condition high low) word has = contains_there left (condition ∷ high ∷ low ∷ []) word has
reads_among (Always falling clock name data_word) word has = by (contains_cases (Named clock) (data_word ∷ []) word has)
  where
    by : (Named clock ≡ word) ⊎ Contains (data_word ∷ []) word → Contains (Named clock ∷ Named name ∷ data_word ∷ []) word
    by (inl same) = subst (Contains (Named clock ∷ Named name ∷ data_word ∷ [])) same (contains_here (Named clock) (Named name ∷ data_word ∷ []))
    by (inr more) = Contains-append_right (Named clock ∷ Named name ∷ []) (data_word ∷ []) word more
reads_among (Module ports) word has = absurd (none_in_nil word has)
reads_among (Input name) word has = absurd (none_in_nil word has)
reads_among (Output name) word has = absurd (none_in_nil word has)
reads_among (Reg name) word has = absurd (none_in_nil word has)
reads_among End word has = absurd (none_in_nil word has)

last_step : {A : Type 0} (steps : List (A × A)) {x z : A} → Leads steps x z → (y : A) × Contains steps (y, z)
last_step steps (One has) = (_, has)
last_step steps (More has rest) = last_step steps rest

module _ (f : FlatNet) (tables : List TableBits) (ready : IsReady f tables) where
  abbrev of_design : Design
  of_design = filled_design f tables

  abbrev scope : Scope
  scope = root of_design

  abbrev stem : List ℕ
  stem = stem_of f

  abbrev lines : List Line
  lines = filled_lines f tables

  -- the words that a gate takes have no cells
  words_make_none : (words : List NetWord) → flat_map (λ e. (made_in scope e (width_of scope e)).cells) (map (expression_of stem) words) ≡ []
  words_make_none [] = refl
  words_make_none (w ∷ words) = ap₂ (λ made l. made.cells ++ l) (alone_made f tables ready w) (words_make_none words)

  -- what a register takes

  data_made : (name : List ℕ) (word : NetWord)
      → made_in scope (expression_of stem word) (context_width scope (Net name) (expression_of stem word)) ≡ without_cells (term_of stem word ∷ [])
  data_made name word =
      let declares = module_declares f tables ready in
      let width = word_width [] (filled_module f tables) f declares stem word in
      ap (made_in scope (expression_of stem word)) (ap₂ max (net_width [] (filled_module f tables) f declares name) width ∙ sym width) ∙ alone_made f tables ready word

  pub data_are : (falling : Bool) (clock name : List ℕ) (word : NetWord) → data_terms scope (always_of stem falling clock name word) ≡ term_of stem word ∷ []
  data_are falling clock name word = ap₂ (λ bits made. low_bits (length bits) made.bits) (net_written f tables ready name) (data_made name word)

  -- what a line reads as it is
  line_read : (line : Line) → IsFormed line → (b : NetBit) → Contains (flat_map (λ c. read_at (scope, c)) (constructs_of stem line)) b
      → Contains (bits_of stem (line_reads line)) b
  line_read (Gate primitive out ins) formed b has =
      let cells = ap₂ (λ made terms. made ++ gate_cells (gate_of primitive) terms) (words_make_none ins) (terms_are f tables ready ins) in
      let read = read_by (gate_cells (gate_of primitive) (map (term_of stem) ins)) in
      gate_reads stem primitive ins formed.1 b
      (subst (λ l. Contains l b) (ap (λ l. (read_by l ++ []) ++ []) cells ∙ append-nil (read ++ []) ∙ append-nil read) has)
  line_read (Assign left condition high low) formed b has =
      let read = bits_of stem (condition ∷ high ∷ low ∷ []) in
      subst (λ l. Contains l b)
      (ap (λ made. (read_by made.cells ++ []) ++ []) (choice_made f tables ready left condition high low)
      ∙ append-nil ((read ++ []) ++ []) ∙ append-nil (read ++ []) ∙ append-nil read)
      has
  line_read (Always falling clock name data_word) formed b has =
      let item = always_of stem falling clock name data_word in
      subst (λ l. Contains l b)
      (ap₂ (λ made bits. (read_by made.cells ++ (bits ++ flat_map (bit_itself []) (data_terms scope item))) ++ [])
      (data_made name data_word) (net_written f tables ready clock)
      ∙ append-nil (bit_named clock ∷ flat_map (bit_itself []) (data_terms scope item))
      ∙ ap (λ terms. bit_named clock ∷ flat_map (bit_itself []) terms) (data_are falling clock name data_word))
      has
  line_read (Module ports) formed b has = absurd (none_in_nil b has)
  line_read (Input name) formed b has = absurd (none_in_nil b has)
  line_read (Output name) formed b has = absurd (none_in_nil b has)
  line_read (Reg name) formed b has = absurd (none_in_nil b has)
  line_read End formed b has = absurd (none_in_nil b has)

  formed_line : (line : Line) → Contains lines line → IsFormed line
  formed_line line has = All-contains IsFormed lines line (are_formed f tables ready) has

  module _ (clocks : HaveClocks f) (word_nets : WordsAreNets) where
    word_there : (line : Line) → Contains lines line → (word : NetWord) → Contains (line_words line) word → Contains (flat_map line_words lines) word
    word_there line has word at = into_flat line_words lines line word has at

    -- what a line reads is driven
    read_driven : (line : Line) → Contains lines line → (b : NetBit) → Contains (bits_of stem (line_reads line)) b → Contains (driven_bits of_design) b
    read_driven line has b read =
        let word = bit_of_some stem (line_reads line) b read in
        word_driven f tables ready clocks word_nets word.0 (word_there line has word.0 (reads_among line word.0 word.1)) b word.2

    output_driven : (n : List ℕ) → Contains f.outs n → Contains (driven_bits of_design) (bit_named n)
    output_driven n has =
        let ports = f.ins ++ f.outs in
        let word = contains-map Named ports n (Contains-append_right f.ins f.outs n has) in
        word_driven f tables ready clocks word_nets (Named n) (word_there (Module ports) (contains_here (Module ports) _) (Named n) word) (bit_named n) (tt, refl)

    directly_driven : (b : NetBit) → Contains (read_directly of_design) b → Contains (driven_bits of_design) b
    directly_driven b has = by (Contains-append_cases (top_outputs of_design) (flat_map read_at (parts of_design)) b has)
      where
        by : Contains (top_outputs of_design) b ⊎ Contains (flat_map read_at (parts of_design)) b → Contains (driven_bits of_design) b
        by (inl top) =
            let n = from_map bit_named f.outs b (subst (λ l. Contains l b) (top_outputs_are f tables ready) top) in
            subst (Contains (driven_bits of_design)) n.2 (output_driven n.0 n.1)
        by (inr there) =
            let among = subst (λ l. Contains l b) (parts_give f tables ready read_at) there in
            let line = from_flat (λ line. flat_map (λ c. read_at (scope, c)) (constructs_of stem line)) lines b among in
            read_driven line.0 line.1 b (line_read line.0 (formed_line line.0 line.1) b line.2)

    copy_driven : (c b : NetBit) → Contains (copied_bits of_design) (c, b) → Contains (driven_bits of_design) b
    copy_driven c b has =
        let drive = from_flat (λ (x : Drive). map (λ k. (x.bit, k)) (copied x.source)) (drives of_design) (c, b) has in
        let k = from_map (λ k. (drive.0.bit, k)) (copied drive.0.source) (c, b) drive.2 in
        let need = copied_needed drive.0.source b (subst (Contains (copied drive.0.source)) (ap (λ (y : NetBit × NetBit). y.1) k.2) k.1) in
        let line = line_of_drive f tables ready drive.0 drive.1 b need in
        read_driven line.0 line.1 b (line_needs stem line.0 (formed_line line.0 line.1) drive.0 line.2 b need)

    pub filled_bits_are_driven : AreDriven of_design
    filled_bits_are_driven b (inl direct) = directly_driven b direct
    filled_bits_are_driven b (inr (c, direct, leads)) = let last = last_step (copied_bits of_design) leads in copy_driven last.0 b last.1
