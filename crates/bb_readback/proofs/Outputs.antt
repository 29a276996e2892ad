-- A world of the filled text has at its cut outputs the bits that the netlist has there: each has the bit of its place.
use Rattle.std.proofs.Common.{◌≡◌, ◌∙◌, ◌⊎◌, inl, inr, ℕ, ◌+◌, Bool, Some, List, [], length, map, Contains, sym, ap, ap₂, subst}
use Rattle.std.specs.Prelude.{slice_get}
use Rattle.std.proofs.lemmas.List.Elements.{All-contains, Contains-append_cases, Contains-append_left, Contains-append_right}
use Rattle.bb_bits.specs.Tables.{TableBits}
use Rattle.bb_net.specs.declared.flat.Reg.{Reg as Register}
use Rattle.bb_net.specs.Equivalence.{IsVector}
use Rattle.bb_net.specs.CutPoints.{CutOutput, cut_inputs, NextState, TopOutput}
use Rattle.bb_net.specs.Flats.{FlatNet, HaveClocks}
use Rattle.bb_fill.specs.Words.{NetWord, stem_of}
use Rattle.bb_fill.specs.Lines.{Always}
use Rattle.bb_fill.specs.Filled.{filled_lines}
use Rattle.bb_fill.specs.Laws.{AreMet, GivesBitsOf, IsReady, LinesHaveBits, NetsAreDrivenOnce, RegistersTakeBits}
use Rattle.bb_design.specs.Hierarchy.{Design}
use Rattle.bb_design.specs.Laws.DesignLaws.{DesignLaws}
use Rattle.bb_design.specs.Laws.DriveLaws.{NextStatesGoByTerms}
use Rattle.bb_design.specs.NetBits.{Bit as NetBit, top_outputs}
use Rattle.bb_design.specs.Registers.{RegisterBit, registers}
use Rattle.bb_design.specs.Texts.{bit_text}
use Rattle.bb_design.specs.Worlds.{HasVector, Vector, World, bit_in, next_bit, outputs_in}
use Rattle.bb_lemmas.proofs.Members.{contains-map, from_map}
use Rattle.bb_lemmas.proofs.Places.{got, there_at}
use Rattle.bb_readback.specs.Laws.Designs.{IsCalledAs, IsRegisterOf, filled_design}
use Rattle.bb_readback.specs.Laws.{FilledDesignsAreNamedTheSame, FilledDesignsHaveBits, FilledModulesAreSound}
use Rattle.bb_readback.proofs.CutPlaces.{HasBit, IsNextAt, IsTopAt, from_net, into_net, next_place, out, output_at, top_place}
use Rattle.bb_readback.proofs.Given.{is_vector, register_bit, vector_given}
use Rattle.bb_readback.proofs.Lists.{placed}
use Rattle.bb_readback.proofs.Meanings.{bit_named}
use Rattle.bb_readback.proofs.MetLines.{lines_met, word_bit, world_driven}
use Rattle.bb_readback.proofs.Nets.{bit_text_is, top_outputs_are}
use Rattle.bb_readback.proofs.Stored.{next_is}

module _ (f : FlatNet) (tables : List TableBits) (ready : IsReady f tables) where
  abbrev of_design : Design
  of_design = filled_design f tables

  -- in a world where the lines are met, each output has its bit

  module _ (x : Vector) (called : IsCalledAs of_design f) (w : World) (has_vector : HasVector of_design x w) (met : AreMet (word_bit (stem_of f) w) (filled_lines f tables)) where
    abbrev vector : List Bool
    vector = map x (cut_inputs f)

    abbrev bit : NetWord → Bool
    bit = word_bit (stem_of f) w

    given : GivesBitsOf f vector bit
    given = vector_given f tables ready called x w has_vector

    is_one : IsVector f.net vector
    is_one = is_vector f tables ready called x w has_vector

    abbrev top : NetBit → CutOutput × Bool
    top b = (TopOutput (bit_text of_design b), bit_in w b)

    abbrev next : RegisterBit → CutOutput × Bool
    next r = (NextState (bit_text of_design r.bit), next_bit w r)

    module _ (have_bits : LinesHaveBits) where
      top_at : (k : ℕ) (n : List ℕ) → slice_get f.outs k ≡ Some n → out f tables x k ≡ w [] n 0
      top_at k n at =
          let have = have_bits f tables ready vector bit is_one given met in
          let name = got f.outs k n [] at in
          sym (have.outputs k name.0) ∙ ap (λ m. w [] m 0) name.1

      top_has : (n : List ℕ) → Contains f.outs n → HasBit f tables x (top (bit_named n))
      top_has n has =
          let place = placed f.outs n has in
          (place.0, top_place f place.0 n place.1 ∙ ap (λ t. Some (TopOutput t)) (sym (bit_text_is f tables ready n)), top_at place.0 n place.1)

      top_there : (z : CutOutput × Bool) (k : ℕ) (n : List ℕ) → slice_get f.outs k ≡ Some n → TopOutput n ≡ z.0 → out f tables x k ≡ z.1
          → Contains (outputs_in of_design w) z
      top_there z k n at text is =
          let b = bit_named n in
          let there = subst (λ l. Contains l b) (sym (top_outputs_are f tables ready)) (contains-map bit_named f.outs n (there_at f.outs k n at)) in
          let same = ap₂ {C = CutOutput × Bool} (λ o b. (o, b)) (ap TopOutput (bit_text_is f tables ready n) ∙ text) (sym (top_at k n at) ∙ is) in
          subst (Contains (outputs_in of_design w)) same
          (Contains-append_left (map top (top_outputs of_design)) (map next (registers of_design)) (top b) (contains-map top (top_outputs of_design) b there))

    module _ (clocks : HaveClocks f) (takes : RegistersTakeBits) (nets : NetsAreDrivenOnce) (states : NextStatesGoByTerms) where
      next_at : (k : ℕ) (register : Register) → slice_get f.regs k ≡ Some register → (r : RegisterBit) → Contains (registers of_design) r
          → bit_text of_design r.bit ≡ register.text → out f tables x (length f.outs + k) ≡ next_bit w r
      next_at k register at r has text =
          let taken = takes f tables ready clocks vector bit is_one given met k register at in
          let named = ap (λ (b : NetBit). b.net) (sym (register_bit f tables ready r has register.text text)) in
          let line = subst (λ n. Contains (filled_lines f tables) (Always register.falling taken.clock n taken.data_word)) named taken.line in
          sym taken.takes ∙ sym (next_is f tables ready states nets w r has register.falling taken.clock taken.data_word line)

      next_has : (r : RegisterBit) → Contains (registers of_design) r → HasBit f tables x (next r)
      next_has r has =
          let named = λ (q : RegisterBit). (register : Register) × Contains f.regs register × IsRegisterOf of_design f q register in
          let register = All-contains named (registers of_design) r called.each has in
          let place = placed f.regs register.0 register.1 in
          let text = register.2.text in
          let at = next_place f place.0 register.0 place.1 ∙ ap (λ t. Some (NextState t)) (sym text) in
          (length f.outs + place.0, at, next_at place.0 register.0 place.1 r has text)

      next_there : (z : CutOutput × Bool) (k : ℕ) (register : Register) → slice_get f.regs k ≡ Some register → NextState register.text ≡ z.0
          → out f tables x (length f.outs + k) ≡ z.1 → Contains (outputs_in of_design w) z
      next_there z k register at text is =
          let bit_for = λ (q : Register). (r : RegisterBit) × Contains (registers of_design) r × IsRegisterOf of_design f r q in
          let r = All-contains bit_for f.regs register called.all (there_at f.regs k register at) in
          let same = ap₂ {C = CutOutput × Bool} (λ o b. (o, b)) (ap NextState r.2.text ∙ text) (sym (next_at k register at r.0 r.1 r.2.text) ∙ is) in
          subst (Contains (outputs_in of_design w)) same
          (Contains-append_right (map top (top_outputs of_design)) (map next (registers of_design)) (next r.0) (contains-map next (registers of_design) r.0 r.1))

      module _ (have_bits : LinesHaveBits) where
        from_world : (z : CutOutput × Bool) → Contains (outputs_in of_design w) z → HasBit f tables x z
        from_world z has = by (Contains-append_cases (map top (top_outputs of_design)) (map next (registers of_design)) z has)
          where
            by : Contains (map top (top_outputs of_design)) z ⊎ Contains (map next (registers of_design)) z → HasBit f tables x z
            by (inl there) =
                let b = from_map top (top_outputs of_design) z there in
                let n = from_map bit_named f.outs b.0 (subst (λ l. Contains l b.0) (top_outputs_are f tables ready) b.1) in
                subst (HasBit f tables x) b.2 (subst (λ b. HasBit f tables x (top b)) n.2 (top_has have_bits n.0 n.1))
            by (inr there) = let r = from_map next (registers of_design) z there in subst (HasBit f tables x) r.2 (next_has r.0 r.1)

        into_world : (z : CutOutput × Bool) → HasBit f tables x z → Contains (outputs_in of_design w) z
        into_world z (k, at, is) = by (output_at f k z.0 at)
          where
            by : IsTopAt f k z.0 ⊎ IsNextAt f k z.0 → Contains (outputs_in of_design w) z
            by (inl (n, top_k, text)) = top_there have_bits z k n top_k text is
            by (inr (j, register, next_j, text, k_is)) = next_there z j register next_j text (ap (out f tables x) k_is ∙ is)

pub filled_designs_have_bits : DesignLaws → FilledModulesAreSound → FilledDesignsAreNamedTheSame → LinesHaveBits → RegistersTakeBits → NetsAreDrivenOnce
    → FilledDesignsHaveBits
filled_designs_have_bits laws sound alike have_bits takes nets f tables ready clocks small contents x w world has_vector o b =
    let driven = world_driven f tables laws (sound f tables ready clocks small) contents w world in
    let met = lines_met f tables ready contents w driven in
    let called = alike f tables ready clocks small in (
      λ has. into_net f tables x ready.flat.named (o, b) (from_world f tables ready x called w has_vector met clocks takes nets laws.next_states have_bits (o, b) has),
      λ has. into_world f tables ready x called w has_vector met clocks takes nets laws.next_states have_bits (o, b) (from_net f tables x (o, b) has),
    )
