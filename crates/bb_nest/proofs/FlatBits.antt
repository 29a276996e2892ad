-- A value of a netlist is its value for free box outputs, those that are at the output pins.
use Rattle.std.proofs.Common.{◌≡◌, ◌<◌, ℕ, zero, suc, ◌+◌, Bool, false, List, [], ◌∷◌, ◌++◌, length, map, take, slice_index, refl, sym, ap, ◌∙◌, arith, length-append}
use Rattle.std.proofs.lemmas.List.{length-map, get_or-map, get_or_append_left, get_or-append-add}
use Rattle.std.proofs.lemmas.List.Sums.{sum_by-cons}
use Rattle.bb_net.specs.Conditions.{PinBits, all_outs}
use Rattle.bb_net.specs.Netlists.{Netlist, Pins, IsNetlist, box_at}
use Rattle.bb_net.specs.Values.{bit_of, gate, flat, free_bit, output_pins, value_of, ValueGoesByBoxes}
use Rattle.bb_nest.specs.Inside.LawsBelow.{ValueExists}

-- the bits at the pins of a box, where cells have these bits
abbrev pub bits_at : List Bool → Pins → PinBits
bits_at bits box = record { ins = map (bit_of bits) box.ins; outs = map (bit_of bits) box.outs }

-- and at all output pins
abbrev pub outs_of : List Bool → List Pins → List Bool
outs_of bits boxes = all_outs (map (bits_at bits) boxes)

pub count_outs : (bits : List Bool) (boxes : List Pins) → length (outs_of bits boxes) ≡ output_pins boxes
count_outs bits [] = refl
count_outs bits (box ∷ boxes) =
    let own = map (bit_of bits) box.outs in
    omega (arith, length-append own (outs_of bits boxes), length-map box.outs (bit_of bits), count_outs bits boxes, sum_by-cons (λ (pins : Pins). length pins.outs) box boxes)

at_pin : (bits : List Bool) (boxes : List Pins) (b p : ℕ) → p < length (box_at boxes b).outs → bit_of (outs_of bits boxes) (output_pins (take b boxes) + p) ≡ bit_of bits (slice_index (box_at boxes b).outs p)
at_pin bits [] b p l = absurd (omega (arith, l))
at_pin bits (box ∷ boxes) zero p l =
    let own = map (bit_of bits) box.outs in
    ap (bit_of (own ++ outs_of bits boxes)) (let e : 0 + p ≡ p = omega arith in e)
    ∙ (get_or_append_left own (outs_of bits boxes) false p (omega (arith, l, length-map box.outs (bit_of bits))) ∙ get_or-map (bit_of bits) box.outs p 0 false l)
at_pin bits (box ∷ boxes) (suc b) p l =
    let own = map (bit_of bits) box.outs in
    let sums = sum_by-cons (λ (pins : Pins). length pins.outs) box (take b boxes) in
    ap (bit_of (own ++ outs_of bits boxes)) (let e : output_pins (take (suc b) (box ∷ boxes)) + p ≡ length own + (output_pins (take b boxes) + p) = omega (arith, sums, length-map box.outs (bit_of bits)) in e)
    ∙ (get_or-append-add own (outs_of bits boxes) (output_pins (take b boxes) + p) false ∙ at_pin bits boxes b p l)

module _ (exists : ValueExists) (swap : ValueGoesByBoxes) (net : Netlist) (kept : IsNetlist net) (x : List Bool) (box : ℕ → ℕ → List Bool → Bool) where
  abbrev bits : List Bool
  bits = value_of net x box

  -- at an output pin is what its box gives
  pub pin_bit : (b p : ℕ) → p < length (box_at net.boxes b).outs → bit_of bits (slice_index (box_at net.boxes b).outs p) ≡ box b p (map (bit_of bits) (box_at net.boxes b).ins)
  pin_bit b p l =
      let place = slice_index (box_at net.boxes b).outs p in
      let there = kept.driven b p place (l, refl) in
      (exists net x box kept.ordered).each place there.0 ∙ ap (gate net.boxes x box (bit_of bits)) there.1

  pub flat_bits : bits ≡ flat net x (outs_of bits net.boxes)
  flat_bits = swap net kept x box (free_bit net.boxes (outs_of bits net.boxes)) (λ b p there l. sym (pin_bit b p l) ∙ sym (at_pin bits net.boxes b p l))
