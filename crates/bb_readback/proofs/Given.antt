-- In a world that has a vector, the words of the netlist's inputs and registers have the bits of the vector.
use Rattle.std.proofs.Common.{◌≡◌, ◌∙◌, ℕ, ◌+◌, Bool, false, List, [], ◌++◌, length, length-append, map, Contains, refl, sym, ap, ap₂, subst, arith}
use Rattle.std.proofs.lemmas.List.{get_or-map, length-map, map-append}
use Rattle.std.proofs.lemmas.List.Elements.{All-contains}
use Rattle.bb_bits.specs.Tables.{TableBits}
use Rattle.bb_net.specs.declared.flat.Reg.{Reg as Register}
use Rattle.bb_net.specs.Equivalence.{IsVector}
use Rattle.bb_net.specs.CutPoints.{State, TopInput, cut_inputs, state_texts}
use Rattle.bb_net.specs.Flats.{FlatNet}
use Rattle.bb_net.specs.Values.{bit_of}
use Rattle.bb_fill.specs.Words.{stem_of}
use Rattle.bb_fill.specs.Laws.{GivesBitsOf, IsReady}
use Rattle.bb_design.specs.Hierarchy.{Design}
use Rattle.bb_design.specs.NetBits.{top_inputs}
use Rattle.bb_design.specs.Registers.{RegisterBit, registers}
use Rattle.bb_design.specs.Texts.{bit_text}
use Rattle.bb_design.specs.Worlds.{HasVector, Vector, World, bit_in}
use Rattle.bb_lemmas.proofs.Maps.{map-twice, same_by_places}
use Rattle.bb_lemmas.proofs.Members.{contains-map, from_map}
use Rattle.bb_lemmas.proofs.Places.{some_same, there_at}
use Rattle.bb_readback.specs.Laws.Designs.{IsCalledAs, IsRegisterOf, filled_design}
use Rattle.bb_readback.proofs.Meanings.{bit_named}
use Rattle.bb_readback.proofs.MetLines.{word_bit}
use Rattle.bb_readback.proofs.Nets.{bit_text_is, top_inputs_are}
use Rattle.bb_readback.proofs.Stored.{register_stored}

same_on : {A B : Type 0} (f g : A → B) (xs : List A) → ((x : A) → Contains xs x → f x ≡ g x) → map f xs ≡ map g xs
same_on f g xs each = same_by_places f g xs xs refl (λ k x y p q. each x (there_at xs k x p) ∙ ap g (some_same x y (sym p ∙ q)))

module _ (f : FlatNet) (tables : List TableBits) (ready : IsReady f tables) where
  abbrev of_design : Design
  of_design = filled_design f tables

  -- a register is the bit of the net of its text
  pub register_bit : (r : RegisterBit) → Contains (registers of_design) r → (text : List ℕ) → bit_text of_design r.bit ≡ text → r.bit ≡ bit_named text
  register_bit r has text called =
      let by = register_stored f tables ready r has in
      let is = ap (λ (q : RegisterBit). q.bit) by.is in
      sym is ∙ ap bit_named (sym (bit_text_is f tables ready by.name) ∙ ap (bit_text of_design) is ∙ called)

  module _ (called : IsCalledAs of_design f) (x : Vector) (w : World) (has : HasVector of_design x w) where
    input_given : (n : List ℕ) → Contains f.ins n → w [] n 0 ≡ x (TopInput n)
    input_given n input =
        let there = subst (λ l. Contains l (bit_named n)) (sym (top_inputs_are f tables ready)) (contains-map bit_named f.ins n input) in
        All-contains (λ b. bit_in w b ≡ x (TopInput (bit_text of_design b))) (top_inputs of_design) (bit_named n) has.inputs there
        ∙ ap (λ t. x (TopInput t)) (bit_text_is f tables ready n)

    state_given : (n : List ℕ) → Contains (state_texts f) n → w [] n 0 ≡ x (State n)
    state_given n text =
        let register = from_map (λ (r : Register). r.text) f.regs n text in
        let bit = λ (q : Register). (r : RegisterBit) × Contains (registers of_design) r × IsRegisterOf of_design f r q in
        let r = All-contains bit f.regs register.0 called.all register.1 in
        let named = r.2.text ∙ register.2 in
        ap (bit_in w) (sym (register_bit r.0 r.1 n named))
        ∙ All-contains (λ r. bit_in w r.bit ≡ x (State (bit_text of_design r.bit))) (registers of_design) r.0 has.states r.1
        ∙ ap (λ t. x (State t)) named

    abbrev names : List (List ℕ)
    names = f.ins ++ state_texts f

    abbrev pub vector : List Bool
    vector = map x (cut_inputs f)

    vector_is : vector ≡ map (λ n. w [] n 0) names
    vector_is =
        map-append x (map TopInput f.ins) (map State (state_texts f))
        ∙ ap₂ ◌++◌
        (map-twice TopInput x f.ins ∙ same_on (λ n. x (TopInput n)) (λ n. w [] n 0) f.ins (λ n input. sym (input_given n input)))
        (map-twice State x (state_texts f) ∙ same_on (λ n. x (State n)) (λ n. w [] n 0) (state_texts f) (λ n text. sym (state_given n text)))
        ∙ sym (map-append (λ n. w [] n 0) f.ins (state_texts f))

    names_count : length names ≡ f.net.inputs
    names_count = length-append f.ins (state_texts f) ∙ ap (λ n. length f.ins + n) (length-map f.regs (λ (r : Register). r.text)) ∙ sym ready.flat.named.inputs

    pub is_vector : IsVector f.net vector
    is_vector = ap length vector_is ∙ length-map names (λ n. w [] n 0) ∙ names_count

    pub vector_given : GivesBitsOf f vector (word_bit (stem_of f) w)
    vector_given = record {
      numbers = λ b. refl;
      inputs = λ i within. sym (ap (λ l. bit_of l i) vector_is ∙ get_or-map (λ n. w [] n 0) names i [] false (omega (arith, within, names_count)));
    }
