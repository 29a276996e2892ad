-- The cut outputs of a netlist by their places: those of the top, and then the next states of its registers. Each has the bit of its place.
use Rattle.std.proofs.Common.{◌≡◌, ◌∙◌, ◌⊎◌, inl, inr, ℕ, ◌+◌, ◌-◌, ◌<◌, ◌≤◌, Bool, Some, List, length, length-append, map, get_or, Contains, refl, sym, ap, ap₂, subst, arith}
use Rattle.std.specs.Prelude.{slice_get}
use Rattle.std.proofs.lemmas.List.{get_or-map, length-map}
use Rattle.std.proofs.lemmas.Option.{slice_get-get_or, slice_get-map, slice_get_within}
use Rattle.bb_bits.specs.Tables.{TableBits}
use Rattle.bb_net.specs.declared.flat.Reg.{Reg as Register}
use Rattle.bb_net.specs.Equivalence.{out_bit}
use Rattle.bb_net.specs.CutPoints.{CutOutput, cut_inputs, NextState, TopOutput, cut_outputs, state_texts}
use Rattle.bb_net.specs.Flats.{AreNamed, FlatNet}
use Rattle.bb_net.specs.Values.{bit_of, flat_with}
use Rattle.bb_design.specs.Worlds.{Vector}
use Rattle.bb_lemmas.proofs.Members.{mapped_there}
use Rattle.bb_lemmas.proofs.Orders.{less_or_not}
use Rattle.bb_lemmas.proofs.Places.{got, got-map, got_left, got_right, in_prefix}
use Rattle.bb_readback.specs.Laws.Designs.{outputs_by}
use Rattle.bb_readback.proofs.Lists.{zip_place, zip_there}

module _ (f : FlatNet) where
  -- the outputs of the netlist by their places: those of the top, and then the next states of its registers

  abbrev tops : List CutOutput
  tops = map TopOutput f.outs

  abbrev nexts : List CutOutput
  nexts = map NextState (state_texts f)

  tops_count : length tops ≡ length f.outs
  tops_count = length-map f.outs TopOutput

  outputs_count : AreNamed f → length (cut_outputs f) ≡ length f.net.outs
  outputs_count named =
      let registers_count = length-map (state_texts f) NextState ∙ length-map f.regs (λ (r : Register). r.text) in
      length-append tops nexts ∙ ap₂ ◌+◌ tops_count registers_count ∙ sym named.outputs

  pub top_place : (k : ℕ) (n : List ℕ) → slice_get f.outs k ≡ Some n → slice_get (cut_outputs f) k ≡ Some (TopOutput n)
  top_place k n at = got_left tops nexts k (TopOutput n) (got-map TopOutput f.outs k n at)

  next_after : (k : ℕ) → slice_get (cut_outputs f) (length f.outs + k) ≡ slice_get nexts k
  next_after k = ap (λ n. slice_get (cut_outputs f) (n + k)) (sym tops_count) ∙ got_right tops nexts k

  pub next_place : (k : ℕ) (register : Register) → slice_get f.regs k ≡ Some register
      → slice_get (cut_outputs f) (length f.outs + k) ≡ Some (NextState register.text)
  next_place k register at =
      let text = got-map (λ (r : Register). r.text) f.regs k register at in
      next_after k ∙ got-map NextState (state_texts f) k register.text text

  -- an output at a place is one of the top, or the next state of a register

  abbrev pub IsTopAt : ℕ → CutOutput → Type 0
  IsTopAt k o = (n : List ℕ) × (slice_get f.outs k ≡ Some n) × (TopOutput n ≡ o)

  abbrev pub IsNextAt : ℕ → CutOutput → Type 0
  IsNextAt k o = (j : ℕ) × (register : Register) × (slice_get f.regs j ≡ Some register) × (NextState register.text ≡ o) × (length f.outs + j ≡ k)

  next_is_at : (j : ℕ) (o : CutOutput) → slice_get nexts j ≡ Some o → IsNextAt (length f.outs + j) o
  next_is_at j o at =
      let text = mapped_there NextState (slice_get (state_texts f) j) o (sym (slice_get-map NextState (state_texts f) j) ∙ at) in
      let named = slice_get-map (λ (r : Register). r.text) f.regs j in
      let register = mapped_there (λ (r : Register). r.text) (slice_get f.regs j) text.0 (sym named ∙ text.1) in
      (j, register.0, register.1, ap NextState register.2 ∙ text.2, refl)

  pub output_at : (k : ℕ) (o : CutOutput) → slice_get (cut_outputs f) k ≡ Some o → IsTopAt k o ⊎ IsNextAt k o
  output_at k o at = by (less_or_not k (length f.outs))
    where
      by : (k < length f.outs) ⊎ (length f.outs ≤ k) → IsTopAt k o ⊎ IsNextAt k o
      by (inl within) =
          let prefix = in_prefix tops nexts k (omega (arith, within, tops_count)) in
          inl (mapped_there TopOutput (slice_get f.outs k) o (sym (slice_get-map TopOutput f.outs k) ∙ sym prefix ∙ at))
      by (inr after) =
          let j = k - length f.outs in
          let k_is : length f.outs + j ≡ k = omega (arith, after) in
          inr (subst (λ n. IsNextAt n o) k_is (next_is_at j o (sym (next_after j) ∙ ap (slice_get (cut_outputs f)) k_is ∙ at)))

  module _ (tables : List TableBits) (x : Vector) where
    abbrev bits : List Bool
    bits = flat_with f.net (map x (cut_inputs f)) tables

    -- the bit at an output of the netlist
    abbrev pub out : ℕ → Bool
    out k = out_bit f.net bits k

    abbrev pub HasBit : CutOutput × Bool → Type 0
    HasBit z = (k : ℕ) × (slice_get (cut_outputs f) k ≡ Some z.0) × (out k ≡ z.1)

    pub from_net : (z : CutOutput × Bool) → Contains (outputs_by f tables x) z → HasBit z
    from_net z has =
        let place = zip_place (cut_outputs f) (map (bit_of bits) f.net.outs) z has in
        let k = place.0 in
        let bit = got (map (bit_of bits) f.net.outs) k z.1 z.1 place.2 in
        let within : k < length f.net.outs = omega (arith, bit.0, length-map f.net.outs (bit_of bits)) in
        (k, place.1, sym (get_or-map (bit_of bits) f.net.outs k 0 z.1 within) ∙ bit.1)

    pub into_net : AreNamed f → (z : CutOutput × Bool) → HasBit z → Contains (outputs_by f tables x) z
    into_net named z (k, at, is) =
        let within : k < length f.net.outs = omega (arith, slice_get_within (cut_outputs f) k z.0 at, outputs_count named) in
        let bit = got-map (bit_of bits) f.net.outs k (get_or f.net.outs k 0) (slice_get-get_or f.net.outs k 0 within) in
        zip_there (cut_outputs f) (map (bit_of bits) f.net.outs) z k at (bit ∙ ap Some is)
