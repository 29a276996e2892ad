-- The filled design fits the specification where the implementation does: it is called as the netlist of the implementation, which is called
-- as the implementation, and it has no box.
use Rattle.std.proofs.Common.{◌≡◌, ◌+◌, ◌≤◌, ◌∙◌, ℕ, List, [], map, length, Contains, Option, inl, refl, sym, ap, ap₂, subst, arith, length-append}
use Rattle.std.specs.Prelude.{sum_by}
use Rattle.std.proofs.lemmas.List.{length-map}
use Rattle.std.proofs.lemmas.Cmp.{nat_list_eq_equiv}
use Rattle.std.proofs.lemmas.List.Elements.{All-contains, All-weaker}
use Rattle.std.proofs.lemmas.Map.Made.{IsDistinct-from_AllPairs, is_member-Decides, length-le_from_is_member}
use Rattle.std.proofs.lemmas.Slice.Eq.{bytes_eq-Decides}
use Rattle.bb_lemmas.proofs.Members.{all_from, contains-map, from_map}
use Rattle.bb_lemmas.proofs.Places.{head_same}
use Rattle.bb_net.specs.Flats.{FlatNet}
use Rattle.bb_net.specs.declared.flat.Reg.{Reg}
use Rattle.bb_design.specs.Hierarchy.{Design, Scope, boxes}
use Rattle.bb_design.specs.NetBits.{Bit, input_bits, output_bits, top_inputs}
use Rattle.bb_design.specs.Refusals.{AreDistinctTexts, IsSoundDesign, RegisterTexts, TwoDrivers, input_texts, output_texts, register_texts}
use Rattle.bb_design.specs.Registers.{RegisterBit, cut_bits, registers}
use Rattle.bb_design.specs.Texts.{bit_text}
use Rattle.bb_implements.specs.Laws.NamingLaws.{FollowedInputsAreOne}
use Rattle.bb_implements.specs.Implements.{IsRegister, Implements}
use Rattle.bb_match.specs.Refusals.{PairCause, Box, Care, SpecInput, SpecOutput, ImpInput, ImpOutput, SpecRegister, ImpRegister, SpecClock, ImpClock, Clocks, Pins, AreAmong, compared, most_pins}
use Rattle.bb_equiv.specs.DesignFit.{HaveSameClock, DesignsFit, HasClock, IsAbsentInDesigns, IsClockedBy, design_input_and_pin_count}
use Rattle.bb_readback.specs.Laws.Designs.{IsCalledAs, IsRegisterOf}
use Rattle.bb_verdict.proofs.FilledNames.{clocked, registers_are, stored_as}

-- two register bits are one register of a netlist: one of a design that is called as the netlist, and one of a design for which it is
pub record AreOneRegister (d i : Design) (f : FlatNet) (q r : RegisterBit) : Type 0 where
  pub register : Reg
  pub filled : IsRegisterOf d f q register
  pub occurring : IsRegister i r register

one_text : {d i : Design} {f : FlatNet} {q r : RegisterBit} → AreOneRegister d i f q r → bit_text d q.bit ≡ bit_text i r.bit
one_text one = one.filled.text ∙ one.occurring.text

-- texts of which none is twice are no more than those among which they are
fewer : (xs ys : List (List ℕ)) → AreDistinctTexts xs → ((t : List ℕ) → Contains xs t → Contains ys t) → length xs ≤ length ys
fewer xs ys apart among = length-le_from_is_member nat_list_eq_equiv xs ys (IsDistinct-from_AllPairs bytes_eq-Decides xs apart)
    (λ t has. (is_member-Decides bytes_eq-Decides ys t).1 (among t ((is_member-Decides bytes_eq-Decides xs t).0 has)))

-- inputs of the top and register bits
cut_count : (d : Design) → length (cut_bits d) ≡ length (input_texts d) + length (registers d)
cut_count d = length-append (top_inputs d) (map (λ (r : RegisterBit). r.bit) (registers d)) ∙ ap₂ ◌+◌ (sym (length-map (top_inputs d) (bit_text d))) (length-map (registers d) (λ (r : RegisterBit). r.bit))

module _ (i d : Design) (f : FlatNet) (occurs : Implements i f) (called : IsCalledAs d f) where
  ins_same : input_texts d ≡ input_texts i
  ins_same = called.ins ∙ occurs.ins

  outs_same : output_texts d ≡ output_texts i
  outs_same = called.outs ∙ occurs.outs

  one_of : (q : RegisterBit) → Contains (registers d) q → (r : RegisterBit) × Contains (registers i) r × AreOneRegister d i f q r
  one_of q has =
      let there = All-contains (λ (q : RegisterBit). (register : Reg) × Contains f.regs register × IsRegisterOf d f q register) (registers d) q called.each has in
      let r = stored_as i f occurs there.0 there.1 in
      (r.0, r.1, record { register = there.0; filled = there.2; occurring = r.2 })

  -- the two have the same texts of registers
  texts_to : (t : List ℕ) → Contains (register_texts d) t → Contains (register_texts i) t
  texts_to t has =
      let q = from_map (λ (r : RegisterBit). bit_text d r.bit) (registers d) t has in
      let r = one_of q.0 q.1 in
      subst (Contains (register_texts i)) (sym (one_text r.2) ∙ q.2) (contains-map (λ (r : RegisterBit). bit_text i r.bit) (registers i) r.0 r.1)

  texts_back : (t : List ℕ) → Contains (register_texts i) t → Contains (register_texts d) t
  texts_back t has =
      let g = from_map (λ (r : Reg). r.text) f.regs t (subst (λ texts. Contains texts t) (sym (registers_are i f occurs)) has) in
      let q = All-contains (λ (register : Reg). (r : RegisterBit) × Contains (registers d) r × IsRegisterOf d f r register) f.regs g.0 called.all g.1 in
      subst (Contains (register_texts d)) (q.2.text ∙ g.2) (contains-map (λ (r : RegisterBit). bit_text d r.bit) (registers d) q.0 q.1)

  -- each is clocked by an input
  has_clock : (q : RegisterBit) → Contains (registers d) q → HasClock d q
  has_clock q has =
      let is = (one_of q has).2.filled in
      (is.input, record { clock = is.input; is = is.clock; top = is.top; comes = inl refl })

  abbrev pins_of : Scope → ℕ
  pins_of s = length (input_bits s) + length (output_bits s)

  no_pins : boxes d ≡ [] → sum_by pins_of (boxes d) ≡ 0
  no_pins complete = ap (sum_by pins_of) complete

  -- there are no more register bits, since they have different texts
  no_more : AreDistinctTexts (register_texts d) → length (registers d) ≤ length (registers i)
  no_more apart =
      let texts : length (register_texts d) ≤ length (register_texts i) = fewer (register_texts d) (register_texts i) apart texts_to in
      omega (arith, texts, length-map (registers d) (λ (r : RegisterBit). bit_text d r.bit), length-map (registers i) (λ (r : RegisterBit). bit_text i r.bit))

  few : AreDistinctTexts (register_texts d) → boxes d ≡ [] → design_input_and_pin_count i ≤ most_pins → design_input_and_pin_count d ≤ most_pins
  few apart complete fits = omega (arith, fits, cut_count d, cut_count i, ap length ins_same, no_more apart, no_pins complete)

  module _ (one_input : FollowedInputsAreOne) (sound : IsSoundDesign d) (complete : boxes d ≡ []) (care : Option (List ℕ)) (s : Design) (fit : DesignsFit care s i) where
    -- no other bit is the clock of a register bit
    clock_is : (q : RegisterBit) (register : Reg) (is : IsRegisterOf d f q register) (c : Bit) → IsClockedBy d q c → c ≡ is.input
    clock_is q register is c by_it =
        one_input d (sound TwoDrivers) by_it.clock c is.input by_it.top is.top by_it.comes (inl (head_same by_it.clock is.input [] [] (sym by_it.is ∙ is.clock)))

    clocked_isomorphic : (r q : RegisterBit) → Contains (registers s) r → Contains (registers d) q → bit_text d q.bit ≡ bit_text s r.bit → HaveSameClock s d r q
    clocked_isomorphic r q has there same =
        let (u, inside, one) = one_of q there in
        let both = fit Clocks r u has inside (sym (one_text one) ∙ same) in
        let e = clocked i f occurs u one.register one.occurring (bit_text d one.filled.input) one.filled.named in
        record {
          edges = one.filled.edge ∙ one.occurring.falling ∙ both.edges;
          clocks = λ b c first second. ap (bit_text d) (clock_is q one.register one.filled c second) ∙ sym e.2 ∙ both.clocks b e.0 first e.1;
        }

    absent : (cause : PairCause) → IsAbsentInDesigns care s d cause
    absent Box = fit Box
    absent Care = fit Care
    absent SpecInput = subst (AreAmong (input_texts s)) (sym ins_same) (fit SpecInput)
    absent SpecOutput = subst (AreAmong (compared care (output_texts s))) (sym outs_same) (fit SpecOutput)
    absent ImpInput = subst (λ texts. AreAmong texts (input_texts s)) (sym ins_same) (fit ImpInput)
    absent ImpOutput = subst (λ texts. AreAmong texts (compared care (output_texts s))) (sym outs_same) (fit ImpOutput)
    absent SpecRegister = All-weaker (Contains (register_texts i)) (Contains (register_texts d)) texts_back (register_texts s) (fit SpecRegister)
    absent ImpRegister = all_from (Contains (register_texts s)) (register_texts d) (λ t has. All-contains (Contains (register_texts s)) (register_texts i) t (fit ImpRegister) (texts_to t has))
    absent SpecClock = fit SpecClock
    absent ImpClock = all_from (HasClock d) (registers d) has_clock
    absent Clocks = clocked_isomorphic
    absent Pins = few (sound RegisterTexts) complete (fit Pins)

    pub filled_fits : DesignsFit care s d
    filled_fits = absent
