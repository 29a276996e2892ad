-- Bits have levels: inputs and registers are first, then what the lines drive, in their order. A line reads what precedes it, and
-- what it drives is nowhere before it.
use Rattle.std.proofs.Common.{◌≡◌, ◌≢◌, ◌∙◌, ◌⊎◌, inl, inr, ℕ, suc, ◌<◌, ◌≤◌, true≢false, Some, List, ◌∷◌, ◌++◌, append_assoc, map, flat_map, length, length-append, take, drop, AllPairs, Contains, refl, sym, ap, subst, arith}
use Rattle.std.proofs.lemmas.Grind.{flat_map-append}
use Rattle.std.proofs.lemmas.List.{map-append, get_or_append_left}
use Rattle.std.proofs.lemmas.List.Elements.{All-contains, Contains-append_cases, Contains-append_left, Contains-append_right}
use Rattle.std.proofs.lemmas.List.Sums.{fails_before_first, passes_at_first}
use Rattle.std.specs.List.{position_or_len}
use Rattle.bb_bits.specs.Tables.{TableBits}
use Rattle.bb_ast.specs.Syntax.{PlainModule}
use Rattle.bb_net.specs.CutPoints.{state_texts}
use Rattle.bb_net.specs.Flats.{FlatNet, HaveClocks}
use Rattle.bb_fill.specs.Words.{NetWord, Named, stem_of}
use Rattle.bb_fill.specs.Lines.{Line, Module, Input, Output, Reg, Gate, Assign, Always, End}
use Rattle.bb_fill.specs.Filled.{filled_lines}
use Rattle.bb_fill.specs.Laws.{IsNumber, IsReady, LinesReadWhatIsDriven, NetsAreDrivenOnce, WordsAreApart, WordsAreNets, WordsAreOfNetlist, driven, line_reads}
use Rattle.bb_fill.specs.Sizes.{IsSmallText}
use Rattle.bb_readback.specs.Laws.Modules.{filled_module}
use Rattle.bb_design.specs.Dependence.{dependences, needed}
use Rattle.bb_design.specs.Drivers.{Drive, drives}
use Rattle.bb_design.specs.Hierarchy.{Design}
use Rattle.bb_design.specs.Laws.BitLaws.{BitsAreDistinguished}
use Rattle.bb_design.specs.NetBits.{Bit as NetBit, same_bit}
use Rattle.bb_design.specs.Refusals.{AreDrivenOnce, IsAcyclic}
use Rattle.bb_lemmas.proofs.Apart.{apart_append}
use Rattle.bb_lemmas.proofs.Members.{all_from, contains-map, from_flat, from_map, none_in_nil}
use Rattle.bb_lemmas.proofs.Orders.{less_or_not}
use Rattle.bb_lemmas.proofs.Places.{split}
use Rattle.bb_readback.specs.Laws.Designs.{filled_design}
use Rattle.bb_readback.proofs.Bits.{driven_bits_are, line_bits, net_named}
use Rattle.bb_readback.proofs.DrivenBits.{line_of_drive}
use Rattle.bb_readback.proofs.Formed.{IsFormed, are_formed}
use Rattle.bb_readback.proofs.Forms.{IsNet}
use Rattle.bb_readback.proofs.Items.{module_declares}
use Rattle.bb_readback.proofs.Lists.{placed}
use Rattle.bb_readback.proofs.LineBits.{IsBitOf, bit_of_some, bits_of, line_needs}
use Rattle.bb_readback.proofs.Lines.{IsPlain}
use Rattle.bb_readback.proofs.Meanings.{bit_named, bit_of_word, drives_of}
use Rattle.bb_readback.proofs.PlainLines.{line_plain}
use Rattle.bb_readback.proofs.MeantNames.{register_is_reg}
use Rattle.bb_readback.proofs.Sifted.{only_one_of}
use Rattle.bb_readback.proofs.WordSites.{IsDriven}

-- the place of a bit in a list: within a front that has it, and after one that has it not
module _ (reported : BitsAreDistinguished) (b : NetBit) (prefix back : List NetBit) where
  abbrev place : ℕ
  place = position_or_len (same_bit b) (prefix ++ back)

  place_within : Contains prefix b → place < length prefix
  place_within has = by (less_or_not has.0 place)
    where
      by : (has.0 < place) ⊎ (place ≤ has.0) → place < length prefix
      by (inl later) =
          let other = fails_before_first (same_bit b) (prefix ++ back) has.0 b later in
          let here = get_or_append_left prefix back b has.0 has.1 ∙ has.2 in
          absurd (true≢false (sym ((reported b b).1 refl) ∙ sym (ap (same_bit b) here) ∙ other))
      by (inr no_later) = omega (arith, no_later, has.1)

  place_after : (Contains prefix b → ⊥) → length prefix ≤ place
  place_after none = by (less_or_not place (length prefix))
    where
      by : (place < length prefix) ⊎ (length prefix ≤ place) → length prefix ≤ place
      by (inl within) =
          let there = passes_at_first (same_bit b) (prefix ++ back) b (omega (arith, within, length-append prefix back)) in
          absurd (none (place, within, sym (get_or_append_left prefix back b place within) ∙ sym ((reported b _).0 there)))
      by (inr afterwards) = afterwards

module _ (f : FlatNet) (tables : List TableBits) (ready : IsReady f tables) where
  abbrev here : PlainModule
  here = filled_module f tables

  abbrev of_design : Design
  of_design = filled_design f tables

  abbrev lines : List Line
  lines = filled_lines f tables

  abbrev bit_of : NetWord → NetBit
  bit_of word = bit_of_word (stem_of f) word

  -- inputs, registers, and then what the lines drive
  abbrev given_nets : List NetWord
  given_nets = map Named (f.ins ++ state_texts f)

  abbrev level : NetBit → ℕ
  level b = position_or_len (same_bit b) (map bit_of (given_nets ++ flat_map driven lines))

  -- nets that are first, and then what the lines drive, are parted by each line
  parted : (before after : List Line) (line : Line) → lines ≡ before ++ line ∷ after → (first : List NetWord)
      → map bit_of (first ++ flat_map driven lines) ≡ map bit_of (first ++ flat_map driven before) ++ map bit_of (flat_map driven (line ∷ after))
  parted before after line at first =
      let afterwards = flat_map driven (line ∷ after) in
      ap (λ l. map bit_of (first ++ flat_map driven l)) at
      ∙ ap (λ l. map bit_of (first ++ l)) (flat_map-append driven before (line ∷ after))
      ∙ ap (map bit_of) (sym (append_assoc first (flat_map driven before) afterwards))
      ∙ map-append bit_of (first ++ flat_map driven before) afterwards

  module _ (clocks : HaveClocks f) (small : IsSmallText f tables) (nets : NetsAreDrivenOnce) (word_nets : WordsAreNets) (of_netlist : WordsAreOfNetlist)
      (apart : WordsAreApart) where
    -- what depends on other bits is no register

    no_register : (word : NetWord) → IsDriven here (stem_of f) word → (n : List ℕ) → Contains (state_texts f) n → bit_of word ≡ bit_named n → ⊥
    no_register word drives n register same =
        let called = net_named (stem_of f) word drives.0 ∙ ap (λ (b : NetBit). Some b.net) same in
        absurd (true≢false (sym (register_is_reg here f (module_declares f tables ready) n register) ∙ (drives.1 n called).no_reg))

    made_no_register : (line : Line) → IsPlain here (stem_of f) line → (x : Drive) → Contains (drives_of (stem_of f) line) x → (c : NetBit)
        → Contains (needed x.source) c → (n : List ℕ) → Contains (state_texts f) n → x.bit ≡ bit_named n → ⊥
    made_no_register (Gate primitive out ins) plain x has c need n register same =
        no_register out plain.0 n register (ap (λ (y : Drive). y.bit) (only_one_of _ x has) ∙ same)
    made_no_register (Assign left condition high low) plain x has c need n register same =
        no_register left plain.0 n register (ap (λ (y : Drive). y.bit) (only_one_of _ x has) ∙ same)
    made_no_register (Always falling clock name data_word) plain x has c need n register same =
        none_in_nil c (subst (λ (y : Drive). Contains (needed y.source) c) (sym (only_one_of _ x has)) need)
    made_no_register (Module ports) plain x has c need n register same = none_in_nil x has
    made_no_register (Input name) plain x has c need n register same = none_in_nil x has
    made_no_register (Output name) plain x has c need n register same = none_in_nil x has
    made_no_register (Reg name) plain x has c need n register same = none_in_nil x has
    made_no_register End plain x has c need n register same = none_in_nil x has

    module _ (reads : LinesReadWhatIsDriven) (reported : BitsAreDistinguished) (once : AreDrivenOnce of_design) where
      module _ (before after : List Line) (line : Line) (at : lines ≡ before ++ line ∷ after) where
        abbrev earlier : List NetWord
        earlier = given_nets ++ flat_map driven before

        read_earlier : (c : NetBit) → Contains (bits_of (stem_of f) (line_reads line)) c → Contains (map bit_of earlier) c
        read_earlier c has =
            let word = bit_of_some (stem_of f) (line_reads line) c has in
            by word.0 word.2 (All-contains (λ w. IsNumber w ⊎ Contains earlier w) (line_reads line) word.0 (reads f tables ready clocks before after line at) word.1)
          where
            by : (word : NetWord) → IsBitOf (stem_of f) word c → IsNumber word ⊎ Contains earlier word → Contains (map bit_of earlier) c
            by word is (inl number) = absurd (subst IsNet number.1 is.0)
            by word is (inr there) = subst (Contains (map bit_of earlier)) is.1 (contains-map bit_of earlier word there)

        -- what the line drives is no input, and no line before it drives it
        not_again : (b : NetBit) → Contains (map bit_of (driven line)) b → Contains (map bit_of (map Named f.ins ++ flat_map driven before)) b → ⊥
        not_again b here again =
            let parts = driven_bits_are f tables ready ∙ parted before after line at (map Named f.ins) in
            let afterwards = subst (λ l. Contains l b) (sym (map-append bit_of (driven line) (flat_map driven after)))
            (Contains-append_left (map bit_of (driven line)) (map bit_of (flat_map driven after)) b here)
            in
            apart_append (map bit_of (map Named f.ins ++ flat_map driven before)) (map bit_of (flat_map driven (line ∷ after))) b
            (subst (AllPairs ◌≢◌) parts once) again afterwards

        not_earlier : (b : NetBit) → Contains (map bit_of (driven line)) b → ((n : List ℕ) → Contains (state_texts f) n → b ≡ bit_named n → ⊥)
            → Contains (map bit_of earlier) b → ⊥
        not_earlier b here other has =
            let word = from_map bit_of earlier b has in
            by word.0 word.2 (Contains-append_cases given_nets (flat_map driven before) word.0 word.1)
          where
            again : (w : NetWord) → bit_of w ≡ b → Contains (map Named f.ins ++ flat_map driven before) w → ⊥
            again w same there =
                not_again b here (subst (Contains (map bit_of (map Named f.ins ++ flat_map driven before))) same
                (contains-map bit_of (map Named f.ins ++ flat_map driven before) w there))

            given : (w : NetWord) → bit_of w ≡ b → (n : List ℕ) → Named n ≡ w → Contains f.ins n ⊎ Contains (state_texts f) n → ⊥
            given w same n is (inl input) =
                again w same (Contains-append_left (map Named f.ins) (flat_map driven before) w (subst (Contains (map Named f.ins)) is (contains-map Named f.ins n input)))
            given w same n is (inr register) = other n register (sym same ∙ sym (ap bit_of is))

            by : (w : NetWord) → bit_of w ≡ b → Contains given_nets w ⊎ Contains (flat_map driven before) w → ⊥
            by w same (inl there) =
                let n = from_map Named (f.ins ++ state_texts f) w there in
                given w same n.0 n.2 (Contains-append_cases f.ins (state_texts f) n.0 n.1)
            by w same (inr there) = again w same (Contains-append_right (map Named f.ins) (flat_map driven before) w there)

        falls : (b c : NetBit) → Contains (map bit_of earlier) c → (Contains (map bit_of earlier) b → ⊥) → level c < level b
        falls b c read fresh =
            let afterwards = map bit_of (flat_map driven (line ∷ after)) in
            let low = place_within reported c (map bit_of earlier) afterwards read in
            let high = place_after reported b (map bit_of earlier) afterwards fresh in
            subst (λ l. position_or_len (same_bit c) l < position_or_len (same_bit b) l) (sym (parted before after line at given_nets)) (omega (arith, low, high))

      line_falls : (line : Line) → Contains lines line → (x : Drive) → Contains (drives_of (stem_of f) line) x → (c : NetBit)
          → Contains (needed x.source) c → level c < level x.bit
      line_falls line has x drives c need =
          let place = placed lines line has in
          let before = take place.0 lines in
          let after = drop (suc place.0) lines in
          let at = split lines place.0 line place.1 in
          let plain = line_plain f tables ready clocks small nets word_nets of_netlist apart line has in
          let formed = All-contains IsFormed lines line (are_formed f tables ready) has in
          let bit = subst (λ l. Contains l x.bit) (line_bits (stem_of f) line) (contains-map (λ (y : Drive). y.bit) (drives_of (stem_of f) line) x drives) in
          falls before after line at x.bit c (read_earlier before after line at c (line_needs (stem_of f) line formed x drives c need))
          (not_earlier before after line at x.bit bit (made_no_register line plain x drives c need))

      drive_falls : (x : Drive) → Contains (drives of_design) x → (c : NetBit) → Contains (needed x.source) c → level c < level x.bit
      drive_falls x has c need =
          let line = line_of_drive f tables ready x has c need in
          line_falls line.0 line.1 x line.2 c need

      pub filled_bits_have_levels : IsAcyclic of_design
      filled_bits_have_levels = (level, all_from (λ (x : NetBit × NetBit). level x.1 < level x.0) (dependences of_design) each)
        where
          each : (x : NetBit × NetBit) → Contains (dependences of_design) x → level x.1 < level x.0
          each x has =
              let drive = from_flat (λ (y : Drive). map (λ c. (y.bit, c)) (needed y.source)) (drives of_design) x has in
              let c = from_map (λ c. (drive.0.bit, c)) (needed drive.0.source) x drive.2 in
              subst (λ (y : NetBit × NetBit). level y.1 < level y.0) c.2 (drive_falls drive.0 drive.1 c.0 c.1)
