-- how a point of the pins and the inputs is read
use Rattle.std.proofs.Common.{◌≡◌, ◌<◌, ◌≤◌, ℕ, zero, suc, ◌+◌, Bool, false, List, [], ◌∷◌, ◌++◌, length, map, take, drop, get_or, refl, sym, ap, ap₂, ◌∙◌, inl, inr, ◌-◌, arith, drop-cons, length-take, length-drop, length-append, get_or-take, get_or-drop}
use Rattle.std.specs.Prelude.{slice_index_or}
use Rattle.std.specs.List.{flat_map, range_with_len}
use Rattle.std.proofs.lemmas.Bool.{cases_lt}
use Rattle.std.proofs.lemmas.List.{get_or_append_left, get_or-append-add, get_or-append_right, drop-drop, map-append}
use Rattle.std.proofs.lemmas.List.FromFn.{length-range_with_len, get_or-range_with_len}
use Rattle.std.proofs.lemmas.List.Sums.{sum_by-cons}
use Rattle.bb_net.specs.Conditions.{PinBits, all_outs}
use Rattle.bb_net.specs.Netlists.{Netlist, Pins, box_at}
use Rattle.bb_net.specs.Pairs.{pin_count}
use Rattle.bb_net.specs.Values.{bit_of, output_pins}
use Rattle.bb_sym.specs.Plain.{AreVariables, IsReadSo}
use Rattle.bb_input.specs.InputFunctions.{pins_and_inputs, point_pins, boxes_first, in_places}
use Rattle.bb_input.specs.Inside.Order.{in_variables}
use Rattle.bb_input.proofs.OrderLemmas.{pins_of, fits_more}

-- the bit at an output pin
pins_read : (boxes : List Pins) (b pin : ℕ) → pin < length (box_at boxes b).outs → (first : ℕ) (p : List Bool) → first + pin_count boxes ≤ length p →
    bit_of (all_outs (point_pins boxes (drop first p))) (output_pins (take b boxes) + pin) ≡ bit_of p (first + (pin_count (take b boxes) + (length (box_at boxes b).ins + pin)))
pins_read [] b pin l first p fit = absurd (omega (arith, l))
pins_read (box ∷ boxes) zero pin l first p fit =
    let k = length box.ins in
    let m = length box.outs in
    let q = drop first p in
    let own = take m (drop k q) in
    let rest = all_outs (point_pins boxes (drop (k + m) q)) in
    let long : pin < length own = omega (arith, l, fit, sum_by-cons pins_of box boxes, length-take m (drop k q), length-drop k q, length-drop first p) in
    ap (bit_of (own ++ rest)) (let e : 0 + pin ≡ pin = omega arith in e)
    ∙ (get_or_append_left own rest false pin long ∙ (get_or-take m (drop k q) pin false l ∙ (get_or-drop k q pin false ∙ (get_or-drop first p (k + pin) false
    ∙ ap (bit_of p) (let e : first + (k + pin) ≡ first + (0 + (k + pin)) = omega arith in e)))))
pins_read (box ∷ boxes) (suc b) pin l first p fit =
    let k = length box.ins in
    let m = length box.outs in
    let q = drop first p in
    let own = take m (drop k q) in
    let rest = all_outs (point_pins boxes (drop (k + m) q)) in
    let sums = sum_by-cons pins_of box boxes in
    let long : length own ≡ m = omega (arith, fit, sums, length-take m (drop k q), length-drop k q, length-drop first p) in
    ap (bit_of (own ++ rest)) (let e : output_pins (take (suc b) (box ∷ boxes)) + pin ≡ length own + (output_pins (take b boxes) + pin) = omega (arith, long, sum_by-cons (λ (pins : Pins). length pins.outs) box (take b boxes)) in e)
    ∙ (get_or-append-add own rest (output_pins (take b boxes) + pin) false
    ∙ (ap (λ (w : List Bool). bit_of (all_outs (point_pins boxes w)) (output_pins (take b boxes) + pin)) (drop-drop (k + m) first p)
    ∙ (pins_read boxes b pin l (first + (k + m)) p (omega (arith, fit, sums))
    ∙ ap (bit_of p) (let e : (first + (k + m)) + (pin_count (take b boxes) + (length (box_at boxes b).ins + pin)) ≡ first + (pin_count (box ∷ take b boxes) + (length (box_at boxes b).ins + pin)) = omega (arith, sum_by-cons pins_of box (take b boxes)) in e))))

pub box_there : (boxes : List Pins) (b pin : ℕ) → pin < length (box_at boxes b).outs → b < length boxes
box_there [] b pin l = absurd (omega (arith, l))
box_there (box ∷ boxes) zero pin l = omega arith
box_there (box ∷ boxes) (suc b) pin l = let rest = box_there boxes b pin l in omega (arith, rest)

module _ (imp : Netlist) (n : ℕ) (few : n ≤ 2048) (v : n ≡ pins_and_inputs imp) (starts : List ℕ) (count : length starts ≡ length imp.boxes)
    (start : (b : ℕ) → b < length imp.boxes → slice_index_or starts b 0 ≡ pin_count (take b imp.boxes) + length (box_at imp.boxes b).ins) where
  pub order_variables : AreVariables n (pin_count imp.boxes) starts imp
  order_variables = record {
    few = few;
    inputs = omega (arith, v);
    pins = λ b pin l.
        let there = box_there imp.boxes b pin l in
        let e = start b there in
        let fits = fits_more imp.boxes b there in
        (omega (arith, there, count), omega (arith, e, fits, v, l));
  }

  pub order_read : IsReadSo n (pin_count imp.boxes) starts imp (boxes_first imp)
  order_read = record {
    inputs = λ i l p e. get_or-drop (pin_count imp.boxes) p i _;
    pins = λ b pin l p e.
        let there = box_there imp.boxes b pin l in
        pins_read imp.boxes b pin l 0 p (omega (arith, e, v))
        ∙ ap (bit_of p) (let h : 0 + (pin_count (take b imp.boxes) + (length (box_at imp.boxes b).ins + pin)) ≡ slice_index_or starts b 0 + pin = omega (arith, start b there) in h);
  }

-- the bits at the input pins
bits_there : (first k : ℕ) (p : List Bool) → first + k ≤ length p → take k (drop first p) ≡ map (bit_of p) (range_with_len first k)
bits_there first zero p fit = refl
bits_there first (suc k) p fit =
    ap (take (suc k)) (drop-cons p first false (omega (arith, fit)))
    ∙ ap (λ (w : List Bool). bit_of p first ∷ w) (ap (λ n. take k (drop n p)) (let e : suc first ≡ first + 1 = omega arith in e) ∙ bits_there (first + 1) k p (omega (arith, fit)))

pub ins_read : (boxes : List Pins) (first : ℕ) (p : List Bool) → first + pin_count boxes ≤ length p → flat_map (λ (bits : PinBits). bits.ins) (point_pins boxes (drop first p)) ≡ map (bit_of p) (in_variables first boxes)
ins_read [] first p fit = refl
ins_read (box ∷ boxes) first p fit =
    let k = length box.ins in
    let next = first + pins_of box in
    let sums = sum_by-cons pins_of box boxes in
    ap₂ (λ (v w : List Bool). v ++ w) (bits_there first k p (omega (arith, fit, sums)))
    (ap (λ (w : List Bool). flat_map (λ (bits : PinBits). bits.ins) (point_pins boxes w)) (drop-drop (pins_of box) first p) ∙ ins_read boxes next p (omega (arith, fit, sums)))
    ∙ sym (map-append (bit_of p) (range_with_len first k) (in_variables next boxes))

pub variables_within : (boxes : List Pins) (first n : ℕ) → first + pin_count boxes ≤ n → (j d : ℕ) → j < length (in_variables first boxes) → get_or (in_variables first boxes) j d < n
variables_within [] first n fit j d l = absurd (omega (arith, l))
variables_within (box ∷ boxes) first n fit j d l =
    let k = length box.ins in
    let own = range_with_len first k in
    let rest = in_variables (first + pins_of box) boxes in
    let sums = sum_by-cons pins_of box boxes in
    let long = length-range_with_len first k in
    elim (cases_lt j k) [
      | inl here ↦
          let e = get_or_append_left own rest d j (omega (arith, here, long)) in
          let f = get_or-range_with_len first k j d here in
          omega (arith, e, f, here, fit, sums)
      | inr after ↦
          let e = get_or-append_right own rest k j d long after in
          let f = variables_within boxes (first + pins_of box) n (omega (arith, fit, sums)) (j - k) d (omega (arith, l, after, long, length-append own rest)) in
          omega (arith, e, f)
    ]

pub variables_count : (boxes : List Pins) (first : ℕ) → length (in_variables first boxes) ≡ length (in_places boxes)
variables_count [] first = refl
variables_count (box ∷ boxes) first =
    let rest = variables_count boxes (first + pins_of box) in
    omega (arith, rest, length-append (range_with_len first (length box.ins)) (in_variables (first + pins_of box) boxes), length-range_with_len first (length box.ins), length-append box.ins (in_places boxes))
