-- A flat netlist that implements a design is called as the design: its registers have the texts and the clocks of the register bits, and what
-- it takes and gives is called as what the design takes and gives.
use Rattle.std.proofs.Common.{◌≡◌, ◌++◌, ◌∷◌, ◌∙◌, ◌⊎◌, ◌<◌, ℕ, Bool, List, [], length, map, get_or, Contains, None, Option, Some, refl, sym, ap, ap₂, subst, inl, inr, arith}
use Rattle.std.specs.Prelude.{slice_get}
use Rattle.std.specs.List.{AllZip}
use Rattle.std.specs.Option.{option_and_then}
use Rattle.std.proofs.lemmas.List.{get_or_default, length-map, map-append}
use Rattle.std.proofs.lemmas.Option.{slice_get-get_or}
use Rattle.std.proofs.lemmas.Simd.{map-map}
use Rattle.bb_lemmas.proofs.Firsts.{first_there}
use Rattle.bb_lemmas.proofs.Ranges.{from_range}
use Rattle.bb_lemmas.proofs.Places.{got-map, some_same, there_at}
use Rattle.bb_lemmas.proofs.Zips.{zip_other}
use Rattle.bb_net.specs.CutPoints.{TopInput, State, CutOutput, TopOutput, NextState, clock_text, cut_inputs, cut_outputs, state_texts}
use Rattle.bb_net.specs.Flats.{FlatNet}
use Rattle.bb_net.specs.declared.flat.Reg.{Reg}
use Rattle.bb_design.specs.Hierarchy.{Design}
use Rattle.bb_design.specs.NetBits.{Bit, top_inputs, top_outputs}
use Rattle.bb_design.specs.Refusals.{input_texts, output_texts}
use Rattle.bb_design.specs.Refusals.{register_texts as texts_of_registers}
use Rattle.bb_design.specs.Registers.{RegisterBit, registers}
use Rattle.bb_design.specs.Texts.{bit_text}
use Rattle.bb_design.specs.Worlds.{World, Vector, bit_in, next_bit, outputs_in}
use Rattle.bb_implements.specs.Laws.ListLaws.{vector_bits}
use Rattle.bb_implements.specs.Implements.{IsClockInput, IsRegister, Implements}
use Rattle.bb_fill.specs.Clashes.{InputClashes, IsClash, IsInputClash, IsOutputClash, OutputClashes, output_numbers}
use Rattle.bb_verdict.specs.FilledTexts.{IsTwice}
use Rattle.bb_equiv.specs.DesignFit.{IsClockedBy}

texts_beside : (d : Design) (rs : List RegisterBit) (regs : List Reg) → AllZip (IsRegister d) rs regs → map (λ (r : Reg). r.text) regs ≡ map (λ (r : RegisterBit). bit_text d r.bit) rs
texts_beside d [] [] all = refl
texts_beside d [] (y ∷ ys) all = absurd all
texts_beside d (x ∷ xs) [] all = absurd all
texts_beside d (x ∷ xs) (y ∷ ys) all = ap₂ ◌∷◌ all.0.text (texts_beside d xs ys all.1)

module _ (d : Design) (f : FlatNet) (occurs : Implements d f) where
  pub registers_are : state_texts f ≡ map (λ (r : RegisterBit). bit_text d r.bit) (registers d)
  registers_are = texts_beside d (registers d) f.regs occurs.regs

  -- the register bit for which a register is
  pub stored_as : (register : Reg) → Contains f.regs register → (r : RegisterBit) × Contains (registers d) r × IsRegister d r register
  stored_as register (k, lt, e) =
      let r = zip_other (IsRegister d) (registers d) f.regs k register occurs.regs (slice_get-get_or f.regs k register lt ∙ ap Some e) in
      (r.0, there_at (registers d) k r.0 r.1, r.2)

  -- where the clock of a register has this text, the bit is clocked by an input of this text
  pub clocked : (r : RegisterBit) (register : Reg) → IsRegister d r register → (text : List ℕ) → clock_text f register ≡ Some text → (c : Bit) × IsClockedBy d r c × (bit_text d c ≡ text)
  clocked r register is text named = by register.clock refl is.clock.2
    where
      by : (o : Option ℕ) → register.clock ≡ o → IsClockInput d is.clock.0 o → (c : Bit) × IsClockedBy d r c × (bit_text d c ≡ text)
      by None same clock = let no : None ≡ Some text = sym (ap (option_and_then (slice_get f.ins)) same) ∙ named in absurd (cc no)
      by (Some k) same (c, at, follows) =
          let reported : clock_text f register ≡ Some (bit_text d c) = ap (option_and_then (slice_get f.ins)) same ∙ ap (λ ins. slice_get ins k) occurs.ins ∙ got-map (bit_text d) (top_inputs d) k c at in (
            c,
            record { clock = is.clock.0; is = is.clock.1; top = there_at (top_inputs d) k c at; comes = follows },
            some_same (bit_text d c) text (sym reported ∙ named),
          )

  pub vector_bits_are : (x : Vector) → vector_bits d x ≡ map x (cut_inputs f)
  vector_bits_are x = sym (map-append x (map TopInput f.ins) (map State (state_texts f))
      ∙ ap₂ ◌++◌ (map-map x TopInput f.ins ∙ ap (map (λ t. x (TopInput t))) occurs.ins ∙ map-map (λ t. x (TopInput t)) (bit_text d) (top_inputs d))
      (map-map x State (state_texts f) ∙ ap (map (λ t. x (State t))) registers_are ∙ map-map (λ t. x (State t)) (λ (r : RegisterBit). bit_text d r.bit) (registers d)))

  pub outputs_named : (w : World) → map (λ (o : CutOutput × Bool). o.0) (outputs_in d w) ≡ cut_outputs f
  outputs_named w = map-append (λ (o : CutOutput × Bool). o.0) (map (λ b. (TopOutput (bit_text d b), bit_in w b)) (top_outputs d)) (map (λ r. (NextState (bit_text d r.bit), next_bit w r)) (registers d))
      ∙ ap₂ ◌++◌ (map-map (λ (o : CutOutput × Bool). o.0) (λ b. (TopOutput (bit_text d b), bit_in w b)) (top_outputs d) ∙ sym (map-map TopOutput (bit_text d) (top_outputs d)) ∙ ap (map TopOutput) (sym occurs.outs))
      (map-map (λ (o : CutOutput × Bool). o.0) (λ r. (NextState (bit_text d r.bit), next_bit w r)) (registers d) ∙ sym (map-map NextState (λ (r : RegisterBit). bit_text d r.bit) (registers d)) ∙ ap (map NextState) (sym registers_are))

-- a name that clashes in the netlist is twice in the design
module _ (d : Design) (f : FlatNet) (occurs : Implements d f) where
  input_named : (name : List ℕ) → Contains f.ins name → Contains (input_texts d) name
  input_named name has = subst (λ l. Contains l name) occurs.ins has

  output_named : (name : List ℕ) → Contains f.outs name → Contains (output_texts d) name
  output_named name has = subst (λ l. Contains l name) occurs.outs has

  register_named : (name : List ℕ) → Contains (state_texts f) name → Contains (texts_of_registers d) name
  register_named name has = subst (λ l. Contains l name) (registers_are d f occurs) has

  at_place : (texts : List (List ℕ)) (k : ℕ) → k < length texts → Contains texts (get_or texts k [])
  at_place texts k within = (k, within, get_or_default texts k (get_or texts k []) [] within)

  pub clash_is_twice : (name : List ℕ) → IsClash f name → IsTwice d name
  clash_is_twice name (InputClashes first) = inl (input_named name (first_there (IsInputClash f) f.ins name first), by first.holds)
    where
      by : IsInputClash f name → Contains (texts_of_registers d) name ⊎ Contains (output_texts d) name
      by (inl register) = inl (register_named name register)
      by (inr output) = inr (output_named name output)
  clash_is_twice name (OutputClashes o apart first is) =
      let (r, within, same, other) = first.holds in
      let there = from_range 0 (length f.outs) o (first_there (IsOutputClash f) (output_numbers f) o first) in
      let output = at_place f.outs o (omega (arith, there.1)) in
      let register = at_place (state_texts f) r (omega (arith, within, length-map f.regs (λ (q : Reg). q.text))) in
      inr (
        output_named name (subst (Contains f.outs) (sym is) output),
        register_named name (subst (Contains (state_texts f)) (sym (is ∙ same)) register),
      )
