-- What a gate or a choice drives is no input and no register, and each word of the lines is a number or has a known name.
use Rattle.std.proofs.Common.{◌≡◌, ◌≢◌, ◌∙◌, ◌⊎◌, inl, inr, ℕ, ◌+◌, Bool, true, true≢false, ◌||◌, Some, is_some, List, [], ◌∷◌, ◌++◌, map, flat_map, AllPairs, Contains, refl, sym, ap, subst}
use Rattle.std.proofs.lemmas.Grind.{flat_map-append}
use Rattle.std.proofs.lemmas.List.Elements.{All-contains, Contains-append_cases, Contains-append_left, Contains-append_right}
use Rattle.bb_bits.specs.Earlier.{has_name}
use Rattle.bb_bits.specs.Tables.{TableBits}
use Rattle.bb_ast.specs.Syntax.{PlainModule}
use Rattle.bb_names.specs.Declarations.{implicit_names, implicit_places, is_known}
use Rattle.bb_net.specs.declared.flat.Reg.{Reg as Register}
use Rattle.bb_net.specs.CutPoints.{state_texts}
use Rattle.bb_net.specs.Flats.{FlatNet, HaveClocks}
use Rattle.bb_fill.specs.Words.{NetWord, Bit, Named, CellNet, ChoiceNet, stem_of, texts_of}
use Rattle.bb_fill.specs.Lines.{Line, End}
use Rattle.bb_fill.specs.Filled.{filled_lines, register_lines}
use Rattle.bb_fill.specs.Laws.{IsNumber, IsReady, IsWordOf, NetsAreDrivenOnce, WordsAreApart, WordsAreNets, WordsAreOfNetlist, all_nets, driven, identifier, line_words}
use Rattle.bb_fill.specs.Sizes.{IsSmallText}
use Rattle.bb_readback.specs.Laws.Modules.{bodies_of, filled_module}
use Rattle.bb_lemmas.proofs.Apart.{apart_append, apart_right}
use Rattle.bb_lemmas.proofs.Members.{contains-map, from_flat, from_map, into_flat}
use Rattle.bb_lemmas.proofs.Places.{some_same}
use Rattle.bb_readback.proofs.Forms.{declared_lines, driving_lines, lines_are, storing_lines}
use Rattle.bb_readback.proofs.Implicit.{IsNoName, IsPlaced, driven_placed, implicit_known}
use Rattle.bb_readback.proofs.Items.{flat_items, module_declares}
use Rattle.bb_readback.proofs.MeantNames.{text_declared}

-- what registers drive is their texts
registers-driven : (f : FlatNet) (k : ℕ) (registers : List Register)
    → flat_map driven (register_lines f k registers) ≡ map Named (map (λ r. r.text) registers)
registers-driven f k [] = refl
registers-driven f k (r ∷ rs) = ap (λ l. Named r.text ∷ l) (registers-driven f (k + 1) rs)

module _ (f : FlatNet) (tables : List TableBits) (ready : IsReady f tables) where
  abbrev lines : List Line
  lines = filled_lines f tables

  abbrev prefix_lines : List Line
  prefix_lines = declared_lines f ++ driving_lines f tables

  abbrev back_lines : List Line
  back_lines = storing_lines f ++ End ∷ []

  pub line_of_driving : (line : Line) → Contains (driving_lines f tables) line → Contains lines line
  line_of_driving line has =
      subst (λ l. Contains l line) (sym (lines_are f tables))
      (Contains-append_left prefix_lines back_lines line (Contains-append_right (declared_lines f) (driving_lines f tables) line has))

  -- nothing is driven twice, so what a gate or a choice drives is no input and no register
  module _ (nets : NetsAreDrivenOnce) where
    no_input_driven : (word : NetWord) → Contains (flat_map driven (driving_lines f tables)) word → Contains (map Named f.ins) word → ⊥
    no_input_driven word has input =
        let line = from_flat driven (driving_lines f tables) word has in
        apart_append (map Named f.ins) (flat_map driven lines) word (nets f tables ready).0 input
        (into_flat driven lines line.0 word (line_of_driving line.0 line.1) line.2)

    lines_apart : AllPairs ◌≢◌ (flat_map driven prefix_lines ++ flat_map driven back_lines)
    lines_apart =
        subst (AllPairs ◌≢◌) (ap (flat_map driven) (lines_are f tables) ∙ flat_map-append driven prefix_lines back_lines)
        (apart_right (map Named f.ins) (flat_map driven lines) (nets f tables ready).0)

    no_register_driven : (word : NetWord) → Contains (flat_map driven (driving_lines f tables)) word
        → Contains (map Named (state_texts f)) word → ⊥
    no_register_driven word has register =
        let stored = subst (λ l. Contains l word) (sym (registers-driven f 0 f.regs)) register in
        let prefix = Contains-append_right (flat_map driven (declared_lines f)) (flat_map driven (driving_lines f tables)) word has in
        let back = Contains-append_left (flat_map driven (storing_lines f)) [] word stored in
        apart_append (flat_map driven prefix_lines) (flat_map driven back_lines) word lines_apart
        (subst (λ l. Contains l word) (sym (flat_map-append driven (declared_lines f) (driving_lines f tables))) prefix)
        (subst (λ l. Contains l word) (sym (flat_map-append driven (storing_lines f) (End ∷ []))) back)

  module _ (clocks : HaveClocks f) (small : IsSmallText f tables) (word_nets : WordsAreNets) (of_netlist : WordsAreOfNetlist) where
    abbrev module_of : PlainModule
    module_of = filled_module f tables

    abbrev all_words : List NetWord
    all_words = flat_map line_words lines

    word_of : (word : NetWord) → Contains all_words word → IsWordOf f word
    word_of word has = All-contains (IsWordOf f) all_words word (of_netlist f tables ready clocks small) has

    -- a name that is where it may be an implicit wire
    placed_known : (line : Line) (n : List ℕ) → Contains lines line → IsPlaced (stem_of f) line n → is_known module_of n ≡ true
    placed_known line n has placed =
        implicit_known module_of n
        (subst (λ l. Contains l n) (sym (flat_items implicit_places (stem_of f) 1 lines))
        (into_flat (λ line. flat_map implicit_places (bodies_of (stem_of f) line)) lines line n has placed))

    -- the net of a cell or a choice
    net_known : (word : NetWord) → Contains all_words word → IsNoName word → ((b : Bool) → word ≡ Bit b → ⊥) → (n : List ℕ)
        → identifier (stem_of f) word ≡ Some n → is_known module_of n ≡ true
    net_known word has plain other n e = by (All-contains (λ w. IsNumber w ⊎ Contains (all_nets f tables) w) all_words word (word_nets f tables ready clocks) has)
      where
        net : Contains (map Named f.ins) word ⊎ Contains (flat_map driven lines) word → is_known module_of n ≡ true
        net (inl input) = let name = from_map Named f.ins word input in absurd (plain name.0 (sym name.2))
        net (inr there) =
            let line = from_flat driven lines word there in
            placed_known line.0 n line.1 (driven_placed (stem_of f) line.0 word n line.2 plain e)

        by : IsNumber word ⊎ Contains (all_nets f tables) word → is_known module_of n ≡ true
        by (inl number) = absurd (other number.0 number.1)
        by (inr there) = net (Contains-append_cases (map Named f.ins) (flat_map driven lines) word there)

    -- an input, a register or an output
    text_known : (n : List ℕ) → Contains (texts_of f) n → is_known module_of n ≡ true
    text_known n has = ap (λ b. b || has_name n (implicit_names module_of)) (text_declared module_of f (module_declares f tables ready) n has)

    pub word_known : (word : NetWord) → Contains all_words word → (n : List ℕ) → identifier (stem_of f) word ≡ Some n
        → is_known module_of n ≡ true
    word_known (Bit b) has n e = absurd (true≢false (sym (ap is_some e)))
    word_known (Named name) has n e = subst (λ k. is_known module_of k ≡ true) (some_same name n e) (text_known name (word_of (Named name) has))
    word_known (CellNet k) has n e = net_known (CellNet k) has (λ name is. cc is) (λ b is. cc is) n e
    word_known (ChoiceNet k) has n e = net_known (ChoiceNet k) has (λ name is. cc is) (λ b is. cc is) n e

    -- a driven word that is called as an input or a register would be that input or register
    module _ (nets : NetsAreDrivenOnce) (apart : WordsAreApart) (word : NetWord) (has : Contains all_words word) (drives : Contains (flat_map driven (driving_lines f tables)) word) where
      is_named : (n : List ℕ) → identifier (stem_of f) word ≡ Some n → Contains (texts_of f) n → Named n ≡ word
      is_named n e there = sym (apart f word (Named n) n (word_of word has) there e refl)

      pub driven_no_input : (n : List ℕ) → identifier (stem_of f) word ≡ Some n → Contains f.ins n → ⊥
      driven_no_input n e input =
          let there = Contains-append_left (f.ins ++ state_texts f) f.outs n (Contains-append_left f.ins (state_texts f) n input) in
          no_input_driven nets word drives (subst (Contains (map Named f.ins)) (is_named n e there) (contains-map Named f.ins n input))

      pub driven_no_register : (n : List ℕ) → identifier (stem_of f) word ≡ Some n → Contains (state_texts f) n → ⊥
      driven_no_register n e register =
          let there = Contains-append_left (f.ins ++ state_texts f) f.outs n (Contains-append_right f.ins (state_texts f) n register) in
          no_register_driven nets word drives (subst (Contains (map Named (state_texts f))) (is_named n e there) (contains-map Named (state_texts f) n register))
