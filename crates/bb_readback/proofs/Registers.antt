-- The registers of the filled text as a design are those of the netlist, by their texts.
use Rattle.std.proofs.Common.{◌≡◌, ◌≢◌, ◌∙◌, ℕ, ◌<◌, ◌≤◌, true≢false, Option, Some, None, unwrap_or, List, [], ◌∷◌, ◌++◌, length, map, find, flat_map, All, AllPairs, Contains, refl, sym, ap, subst, subst₂, arith}
use Rattle.std.specs.List.{enumerate_from}
use Rattle.std.specs.Option.{IfSome, IsSome, option_and_then}
use Rattle.std.specs.Prelude.{slice_get}
use Rattle.std.proofs.lemmas.List.{length-map}
use Rattle.std.proofs.lemmas.List.Elements.{All-contains, Contains-append_right}
use Rattle.bb_bits.specs.Tables.{TableBits}
use Rattle.bb_expr.specs.Laws.FitLaws.{NetNamesDiffer}
use Rattle.bb_names.specs.Nets.{net_names}
use Rattle.bb_net.specs.declared.flat.Reg.{Reg as Register}
use Rattle.bb_net.specs.CutPoints.{clock_text, state_texts}
use Rattle.bb_net.specs.Flats.{FlatNet, HaveClocks}
use Rattle.bb_fill.specs.Words.{Named, stem_of}
use Rattle.bb_fill.specs.Lines.{Line, Module, Input, Output, Reg, Gate, Assign, Always, End}
use Rattle.bb_fill.specs.Filled.{filled_lines, next_word, register_line}
use Rattle.bb_fill.specs.Laws.{IsReady, all_nets, driven}
use Rattle.bb_readback.specs.Laws.Modules.{filled_module}
use Rattle.bb_design.specs.Hierarchy.{Design, root}
use Rattle.bb_design.specs.NetBits.{Bit as NetBit, net_order, same_bit}
use Rattle.bb_design.specs.Drivers.{driven_bits}
use Rattle.bb_design.specs.Laws.BitLaws.{BitsAreDistinguished}
use Rattle.bb_design.specs.Laws.DriveLaws.{StoredBitsAreRegisters}
use Rattle.bb_design.specs.Laws.{BitsAreThere}
use Rattle.bb_design.specs.Refusals.{AreDistinctTexts}
use Rattle.bb_design.specs.Refusals as refusals
use Rattle.bb_design.specs.Registers.{RegisterBit, registers, stored, stored_at}
use Rattle.bb_design.specs.Texts.{bit_text}
use Rattle.bb_lemmas.proofs.Apart.{at_most_as_many, one_by}
use Rattle.bb_lemmas.proofs.Members.{all_from, contains-map, contains_here, from_filter_map, from_find, from_flat, from_map, into_flat, none_in_nil}
use Rattle.bb_lemmas.proofs.Places.{some_at, there_at}
use Rattle.bb_readback.specs.Laws.Designs.{IsRegisterOf, filled_design}
use Rattle.bb_readback.proofs.Bits.{driven_bits_are}
use Rattle.bb_readback.proofs.Lists.{pairs_map}
use Rattle.bb_readback.proofs.Meanings.{always_of, bit_named, bit_of_word, constructs_of}
use Rattle.bb_readback.proofs.NetNames.{names_apart}
use Rattle.bb_readback.proofs.Nets.{bit_text_is, net_order_is, top_inputs_are}
use Rattle.bb_readback.proofs.Parts.{net_written, parts_give}
use Rattle.bb_readback.proofs.RegisterLines.{IsOfRegister, register_there, storing_line}
use Rattle.bb_readback.proofs.Sifted.{flat_same, only_one_of, pairs_sift}

module _ (f : FlatNet) (tables : List TableBits) (ready : IsReady f tables) where
  abbrev design : Design
  design = filled_design f tables

  abbrev stem : List ℕ
  stem = stem_of f

  abbrev lines : List Line
  lines = filled_lines f tables

  -- the register bit of a line
  abbrev pub stored_of : Line → List RegisterBit
  stored_of (Always falling clock name data_word) =
      record { scope = root design; item = always_of stem falling clock name data_word; place = 0; bit = bit_named name } ∷ []
  stored_of line = []

  line_stores : (line : Line) → flat_map (λ c. stored_at (root design, c)) (constructs_of stem line) ≡ stored_of line
  line_stores (Always falling clock name data_word) =
      let item = always_of stem falling clock name data_word in
      ap (λ bits. map (λ (x : ℕ × NetBit). record { scope = root design; item = item; place = x.0; bit = x.1 }) (enumerate_from 0 bits) ++ [])
      (net_written f tables ready name)
  line_stores (Gate primitive out ins) = refl
  line_stores (Assign left condition high low) = refl
  line_stores (Module ports) = refl
  line_stores (Input name) = refl
  line_stores (Output name) = refl
  line_stores (Reg name) = refl
  line_stores End = refl

  pub stored_are : stored design ≡ flat_map stored_of lines
  stored_are =
      let all = λ (line : Line). flat_map (λ c. stored_at (root design, c)) (constructs_of stem line) in
      parts_give f tables ready stored_at ∙ flat_same all stored_of lines (all_from (λ line. all line ≡ stored_of line) lines (λ line has. line_stores line))

  line_of : (line : Line) (r : RegisterBit) → Contains lines line → Contains (stored_of line) r → IsOfRegister f line
  line_of (Always falling clock name data_word) r has at = storing_line f tables ready falling clock name data_word has
  line_of (Gate primitive out ins) r has at = absurd (none_in_nil r at)
  line_of (Assign left condition high low) r has at = absurd (none_in_nil r at)
  line_of (Module ports) r has at = absurd (none_in_nil r at)
  line_of (Input name) r has at = absurd (none_in_nil r at)
  line_of (Output name) r has at = absurd (none_in_nil r at)
  line_of (Reg name) r has at = absurd (none_in_nil r at)
  line_of End r has at = absurd (none_in_nil r at)

  module _ (clocks : HaveClocks f) where
    -- the clock of a register is an input
    clock_is : (register : Register) → Contains f.regs register → (text : List ℕ) × Contains f.ins text × (clock_text f register ≡ Some text)
    clock_is register has =
        by register.clock (All-contains (λ (r : Register). IsSome r.clock) f.regs register clocks has)
        (All-contains (λ (r : Register). IfSome r.clock (λ k. k < length f.ins)) f.regs register ready.flat.clocks has)
      where
        by : (clock : Option ℕ) → IsSome clock → IfSome clock (λ k. k < length f.ins)
            → (text : List ℕ) × Contains f.ins text × (option_and_then (slice_get f.ins) clock ≡ Some text)
        by None some within = absurd (true≢false (sym some))
        by (Some k) some within = let text = some_at f.ins k within in (text.0, there_at f.ins k text.0 text.1, text.1)

    abbrev IsNamed : RegisterBit → Type 0
    IsNamed r = (register : Register) × Contains f.regs register × IsRegisterOf design f r register

    line_named : (j : ℕ) (register : Register) (r : RegisterBit) → Contains f.regs register → Contains (stored_of (register_line f j register)) r
        → IsRegisterOf design f r register
    line_named j register r has at =
        let clock = clock_is register has in
        let name = ap (λ o. unwrap_or o []) clock.2 in
        subst (λ q. IsRegisterOf design f q register) (only_one_of _ r at) (record {
          text = bit_text_is f tables ready register.text;
          edge = refl;
          input = bit_named clock.0;
          clock = net_written f tables ready (unwrap_or (clock_text f register) []) ∙ ap (λ n. bit_named n ∷ []) name;
          top = subst (λ l. Contains l (bit_named clock.0)) (sym (top_inputs_are f tables ready)) (contains-map bit_named f.ins clock.0 clock.1);
          named = clock.2 ∙ ap Some (sym (bit_text_is f tables ready clock.0));
        })

    stored_named : (r : RegisterBit) → Contains (stored design) r → IsNamed r
    stored_named r has =
        let line = from_flat stored_of lines r (subst (λ l. Contains l r) stored_are has) in
        let of = line_of line.0 r line.1 line.2 in
        (of.1, of.2, line_named of.0 of.1 r of.2 (subst (λ l. Contains (stored_of l) r) of.3 line.2))

    module _ (reported : BitsAreDistinguished) where
      -- a register is stored, and found by its bit

      abbrev stored_to : NetBit → Option RegisterBit
      stored_to b = find (λ (q : RegisterBit). same_bit b q.bit) (stored design)

      found : (b : NetBit) (r : RegisterBit) → stored_to b ≡ Some r → Contains (stored design) r × (b ≡ r.bit)
      found b r e = let from = from_find (λ (q : RegisterBit). same_bit b q.bit) (stored design) r e in (from.0, (reported b r.bit).0 from.1)

      pub registers_named : All (λ r. (register : Register) × Contains f.regs register × IsRegisterOf design f r register) (registers design)
      registers_named = all_from IsNamed (registers design) by
        where
          by : (r : RegisterBit) → Contains (registers design) r → IsNamed r
          by r has = let from = from_filter_map stored_to (net_order design) r has in stored_named r (found from.0 r from.2).0

      -- no two registers have one text
      module _ (differ : NetNamesDiffer) where
        abbrev Differ : NetBit → NetBit → Type 0
        Differ b c = bit_text design b ≢ bit_text design c

        nets_differ : AllPairs Differ (net_order design)
        nets_differ =
            subst (AllPairs Differ) (sym (net_order_is f tables ready))
            (pairs_map ◌≢◌ Differ bit_named (λ n k other same. other (sym (bit_text_is f tables ready n) ∙ same ∙ bit_text_is f tables ready k))
            (net_names (filled_module f tables)) (names_apart f tables ready differ))

        abbrev text : RegisterBit → List ℕ
        text r = bit_text design r.bit

        pub registers_apart : AreDistinctTexts (refusals.register_texts design)
        registers_apart =
            pairs_map (λ r q. text r ≢ text q) ◌≢◌ text (λ r q other. other) (registers design)
            (pairs_sift Differ (λ r q. text r ≢ text q) stored_to (λ b c r q e g other. subst₂ Differ (found b r e).1 (found c q g).1 other)
            (net_order design) nets_differ)

        -- so they are at most as many as those of the netlist

        text_there : (t : List ℕ) → Contains (refusals.register_texts design) t → Contains (state_texts f) t
        text_there t has =
            let r = from_map text (registers design) t has in
            let register = All-contains IsNamed (registers design) r.0 registers_named r.1 in
            subst (Contains (state_texts f)) (sym register.2.text ∙ r.2) (contains-map (λ (q : Register). q.text) f.regs register.0 register.1)

        pub registers_are_few : length (registers design) ≤ length f.regs
        registers_are_few =
            let few = at_most_as_many (refusals.register_texts design) (state_texts f) registers_apart text_there in
            omega (arith, few, length-map (registers design) text, length-map f.regs (λ (q : Register). q.text))

      -- each register of the netlist is one
      module _ (stores : StoredBitsAreRegisters) (there : BitsAreThere design) where
        stored_there : (register : Register) → Contains f.regs register
            → (r : RegisterBit) × Contains (stored design) r × Contains (net_order design) r.bit × (r.bit ≡ bit_named register.text)
        stored_there register has =
            let at = register_there f tables register has in
            let line = register_line f at.0 register in
            let word = Named register.text in
            let net = into_flat driven lines line word at.1 (contains_here word []) in
            let driven_word = contains-map (bit_of_word stem) (all_nets f tables) word (Contains-append_right (map Named f.ins) (flat_map driven lines) word net) in
            let drives = subst (λ l. Contains l (bit_named register.text)) (sym (driven_bits_are f tables ready)) driven_word in
            let item = always_of stem register.falling (unwrap_or (clock_text f register) []) register.text (next_word f at.0) in
            let r : RegisterBit = record { scope = root design; item = item; place = 0; bit = bit_named register.text } in (
              r,
              subst (λ l. Contains l r) (sym stored_are) (into_flat stored_of lines line r at.1 (contains_here r [])),
              All-contains (Contains (net_order design)) (driven_bits design) (bit_named register.text) there.driven drives,
              refl,
            )

        pub registers_all : All (λ register. (r : RegisterBit) × Contains (registers design) r × IsRegisterOf design f r register) f.regs
        registers_all = all_from _ f.regs by
          where
            by : (register : Register) → Contains f.regs register → (r : RegisterBit) × Contains (registers design) r × IsRegisterOf design f r register
            by register has =
                let r = stored_there register has in
                let q = stores design r.0 r.1 r.2 in
                let named = All-contains IsNamed (registers design) q.0 registers_named q.1 in
                let text = sym named.2.text ∙ ap (bit_text design) (q.2 ∙ r.3) ∙ bit_text_is f tables ready register.text in
                let same = one_by (λ (p : Register). p.text) f.regs ready.flat.apart.regs named.0 register named.1 has text in
                (q.0, q.1, subst (IsRegisterOf design f q.0) same named.2)

        -- so they are as many
        pub registers_are_as_many : NetNamesDiffer → length (registers design) ≡ length f.regs
        registers_are_as_many differ =
            let named = λ (q : Register). (r : RegisterBit) × Contains (registers design) r × IsRegisterOf design f r q in
            let among = λ (t : List ℕ) (has : Contains (state_texts f) t).
            let register = from_map (λ (q : Register). q.text) f.regs t has in
            let r = All-contains named f.regs register.0 registers_all register.1 in
            subst (Contains (refusals.register_texts design)) (r.2.text ∙ register.2) (contains-map (λ (q : RegisterBit). bit_text design q.bit) (registers design) r.0 r.1) in
            let many = at_most_as_many (state_texts f) (refusals.register_texts design) ready.flat.apart.regs among in
            omega (arith, many, registers_are_few differ, length-map (registers design) (λ (q : RegisterBit). bit_text design q.bit), length-map f.regs (λ (q : Register). q.text))
