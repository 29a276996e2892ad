-- The outputs of a design in its worlds, by their places in a netlist that implements it.
use Rattle.std.proofs.Common.{◌≡◌, ℕ, ◌+◌, ◌<◌, Bool, false, List, map, length, get_or, Contains, Some, sym, ap, ap₂, ◌∙◌, arith, length-append}
use Rattle.std.specs.Prelude.{slice_get}
use Rattle.std.proofs.lemmas.List.{get_or-map, length-map}
use Rattle.std.proofs.lemmas.Option.{slice_get-get_or, slice_get_within}
use Rattle.bb_bits.specs.Contents.{Contents}
use Rattle.bb_bits.specs.Tables.{TableBits}
use Rattle.bb_net.specs.Values.{bit_of, flat_with}
use Rattle.bb_net.specs.declared.flat.Reg.{Reg}
use Rattle.bb_net.specs.Flats.{FlatNet, IsFlat}
use Rattle.bb_net.specs.CutPoints.{TopInput, State, CutOutput, TopOutput, NextState, state_texts, cut_inputs, cut_outputs}
use Rattle.bb_implements.specs.Laws.ContentTables.{AreTablesOf}
use Rattle.bb_implements.specs.Implements.{Implements}
use Rattle.bb_design.specs.Hierarchy.{Design}
use Rattle.bb_design.specs.Inside.Allowed.{IsAllowed}
use Rattle.bb_design.specs.Worlds.{World, Vector, HasVector, IsWorld, FitDesign, outputs_in}
use Rattle.bb_equiv.specs.Inside.LowerLaws.{LowerLaws}
use Rattle.bb_equiv.proofs.NamedVectors.{vector_bits_are, outputs_are}

-- a flat netlist has as many inputs and outputs as it has texts for them

pub ins_count : (f : FlatNet) → IsFlat f → length (cut_inputs f) ≡ f.net.inputs
ins_count f flat_net = length-append (map TopInput f.ins) (map State (state_texts f))
    ∙ ap₂ ◌+◌ (length-map f.ins TopInput) (length-map (state_texts f) State ∙ length-map f.regs (λ (r : Reg). r.text)) ∙ sym flat_net.named.inputs

pub outs_count : (f : FlatNet) → IsFlat f → length (cut_outputs f) ≡ length f.net.outs
outs_count f flat_net = length-append (map TopOutput f.outs) (map NextState (state_texts f))
    ∙ ap₂ ◌+◌ (length-map f.outs TopOutput) (length-map (state_texts f) NextState ∙ length-map f.regs (λ (r : Reg). r.text)) ∙ sym flat_net.named.outputs

-- the bit of an output, counted from 0, at the inputs that a vector gives
unfoldable pub bit_out : FlatNet → List TableBits → Vector → ℕ → Bool
bit_out f tables x j = bit_of (flat_with f.net (map x (cut_inputs f)) tables) (get_or f.net.outs j 0)

-- a flat netlist that implements a sound design, and tables of contents that fit its boxes
pub record IsFilled (d : Design) (f : FlatNet) (contents : Contents) (tables : List TableBits) : Type 0 where
  pub allowed : IsAllowed d
  pub occurs : Implements d f
  pub flat_net : IsFlat f
  pub fit : FitDesign d contents
  pub are : AreTablesOf f contents tables

module _ {d : Design} {f : FlatNet} {contents : Contents} {tables : List TableBits} (laws : LowerLaws) (filled : IsFilled d f contents tables) (x : Vector) where
  -- there is a world
  pub some_world : (w : World) × IsWorld d contents w × HasVector d x w
  some_world = (laws.worlds d f filled.allowed filled.occurs contents x filled.fit).0

  module _ (w : World) (is : IsWorld d contents w) (vector : HasVector d x w) where
    abbrev outs : List (CutOutput × Bool)
    outs = outputs_in d w

    abbrev bit : ℕ → Bool
    bit place = bit_of (flat_with f.net (map x (cut_inputs f)) tables) place

    pub out_bits : map (λ o. o.1) outs ≡ map bit f.net.outs
    out_bits = laws.outputs d f filled.allowed filled.occurs contents tables filled.fit filled.are x w is vector ∙ ap (λ v. map (bit_of (flat_with f.net v tables)) f.net.outs) (vector_bits_are d f filled.occurs x)

    counted : length outs ≡ length f.net.outs
    counted = sym (length-map outs (λ o. o.1)) ∙ ap length out_bits ∙ length-map f.net.outs bit

    named : length (cut_outputs f) ≡ length outs
    named = ap length (sym (outputs_are d f filled.occurs w)) ∙ length-map outs (λ o. o.0)

    bit_at : (j : ℕ) (o : CutOutput × Bool) → j < length outs → (get_or outs j o).1 ≡ bit_out f tables x j
    unfolding bit_out
    bit_at j o fits = sym (get_or-map (λ (o : CutOutput × Bool). o.1) outs j o false fits) ∙ ap (λ l. get_or l j false) out_bits ∙ get_or-map bit f.net.outs j 0 false (omega (arith, fits, counted))

    name_at : (j : ℕ) (o : CutOutput × Bool) → j < length outs → slice_get (cut_outputs f) j ≡ Some (get_or outs j o).0
    name_at j o fits = slice_get-get_or (cut_outputs f) j o.0 (omega (arith, fits, named)) ∙ ap Some (ap (λ l. get_or l j o.0) (sym (outputs_are d f filled.occurs w)) ∙ get_or-map (λ (o : CutOutput × Bool). o.0) outs j o o.0 fits)

    -- an output with its bit has a place
    pub output_at : (o : CutOutput) (b : Bool) → Contains outs (o, b) → (j : ℕ) × (slice_get (cut_outputs f) j ≡ Some o) × (j < length f.net.outs) × (bit_out f tables x j ≡ b)
    output_at o b (j, fits, e) = (j, name_at j (o, b) fits ∙ ap Some (ap (λ (u : CutOutput × Bool). u.0) e), omega (arith, fits, counted), sym (bit_at j (o, b) fits) ∙ ap (λ (u : CutOutput × Bool). u.1) e)

    -- what is at a place is an output with its bit
    pub output_there : (j : ℕ) (o : CutOutput) → slice_get (cut_outputs f) j ≡ Some o → Contains outs (o, bit_out f tables x j)
    output_there j o at =
        let fits : j < length outs = omega (arith, slice_get_within (cut_outputs f) j o at, named) in
        let name : (get_or outs j (o, bit_out f tables x j)).0 ≡ o = some_one (get_or outs j (o, bit_out f tables x j)).0 o (sym (name_at j (o, bit_out f tables x j) fits) ∙ at) in
        (j, fits, ap₂ (λ u v. (u, v)) name (bit_at j (o, bit_out f tables x j) fits))
      where
        some_one : (a b : CutOutput) → Some a ≡ Some b → a ≡ b
        some_one a b e = cc e
