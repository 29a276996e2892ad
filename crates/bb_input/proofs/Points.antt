-- points as choices for the boxes
use Rattle.std.proofs.Common.{◌≡◌, ◌≤◌, ◌+◌, Bool, List, [], ◌∷◌, ◌++◌, length, map, take, drop, refl, sym, ap, ap₂, ◌∙◌, arith, length-append, length-take, length-drop, take_all}
use Rattle.std.specs.List.{flat_map}
use Rattle.std.proofs.lemmas.List.{take-append-le, drop-append-le, length-map, map-append}
use Rattle.std.proofs.Math.Seq.{take-append_seam, drop-append_seam}
use Rattle.std.proofs.lemmas.List.Sums.{sum_by-cons}
use Rattle.bb_net.specs.Conditions.{PinBits, all_ins}
use Rattle.bb_net.specs.Netlists.{Pins}
use Rattle.bb_net.specs.Pairs.{pin_count}
use Rattle.bb_net.specs.Values.{bit_of}
use Rattle.bb_input.specs.InputFunctions.{point_pins, in_places}
use Rattle.bb_input.proofs.OrderLemmas.{pins_of}

-- what follows the pins does not matter
pub bits_prefix : (boxes : List Pins) (pre x : List Bool) → pin_count boxes ≤ length pre → point_pins boxes (pre ++ x) ≡ point_pins boxes pre
bits_prefix [] pre x l = refl
bits_prefix (box ∷ boxes) pre x l =
    let k = length box.ins in
    let m = length box.outs in
    let sums = sum_by-cons pins_of box boxes in
    let ins = take-append-le k pre x (omega (arith, l, sums)) in
    let outs = ap (take m) (drop-append-le k pre x (omega (arith, l, sums))) ∙ take-append-le m (drop k pre) x (omega (arith, l, sums, length-drop k pre)) in
    ap₂ (λ (c : PinBits) (cs : List PinBits). c ∷ cs) (ap₂ (λ v w. record { ins = v; outs = w }) ins outs)
    (ap (point_pins boxes) (drop-append-le (k + m) pre x (omega (arith, l, sums))) ∙ bits_prefix boxes (drop (k + m) pre) x (omega (arith, l, sums, length-drop (k + m) pre)))

-- the bits of one more box
pub bits_push : (done : List Pins) (box : Pins) (pre ins outs : List Bool) → length pre ≡ pin_count done → length ins ≡ length box.ins → length outs ≡ length box.outs →
    point_pins (done ++ box ∷ []) (pre ++ (ins ++ outs)) ≡ point_pins done pre ++ record { ins = ins; outs = outs } ∷ []
bits_push [] box [] ins outs e f g =
    let prefix : take (length box.ins) (ins ++ outs) ≡ ins = ap (λ k. take k (ins ++ outs)) (sym f) ∙ take-append_seam ins outs in
    let after : drop (length box.ins) (ins ++ outs) ≡ outs = ap (λ k. drop k (ins ++ outs)) (sym f) ∙ drop-append_seam ins outs in
    ap₂ (λ v w. record { ins = v; outs = w } ∷ []) prefix (ap (take (length box.outs)) after ∙ take_all (length box.outs) outs (omega (arith, g)))
bits_push [] box (b ∷ pre) ins outs e f g = absurd (omega (arith, e))
bits_push (first ∷ done) box pre ins outs e f g =
    let k = length first.ins in
    let m = length first.outs in
    let sums = sum_by-cons pins_of first done in
    let x = ins ++ outs in
    let own_ins = take-append-le k pre x (omega (arith, e, sums)) in
    let own_outs = ap (take m) (drop-append-le k pre x (omega (arith, e, sums))) ∙ take-append-le m (drop k pre) x (omega (arith, e, sums, length-drop k pre)) in
    ap₂ (λ (c : PinBits) (cs : List PinBits). c ∷ cs) (ap₂ (λ v w. record { ins = v; outs = w }) own_ins own_outs)
    (ap (point_pins (done ++ box ∷ [])) (drop-append-le (k + m) pre x (omega (arith, e, sums))) ∙ bits_push done box (drop (k + m) pre) ins outs (omega (arith, e, sums, length-drop (k + m) pre)) f g)

-- equal lists by equal parts
parts_same : (a b v w : List Bool) → length a ≡ length b → a ++ v ≡ b ++ w → (a ≡ b) × (v ≡ w)
parts_same [] [] v w l e = (refl, e)
parts_same [] (y ∷ b) v w l e = absurd (omega (arith, l))
parts_same (x ∷ a) [] v w l e = absurd (omega (arith, l))
parts_same (x ∷ a) (y ∷ b) v w l e =
    let first : x ≡ y = cc in
    let rest : a ++ v ≡ b ++ w = cc in
    let more = parts_same a b v w (omega (arith, l)) rest in
    (ap₂ (λ (z : Bool) (zs : List Bool). z ∷ zs) first more.0, more.1)

-- the bits at all input pins, one list after another or as one list
pub ins_joined : (boxes : List Pins) (bits p : List Bool) → pin_count boxes ≤ length p → all_ins boxes bits ≡ map (λ (c : PinBits). c.ins) (point_pins boxes p) →
    flat_map (λ (c : PinBits). c.ins) (point_pins boxes p) ≡ map (bit_of bits) (in_places boxes)
ins_joined [] bits p l e = refl
ins_joined (box ∷ boxes) bits p l e =
    let k = length box.ins in
    let sums = sum_by-cons pins_of box boxes in
    let own : map (bit_of bits) box.ins ≡ take k p = cc in
    let rest : all_ins boxes bits ≡ map (λ (c : PinBits). c.ins) (point_pins boxes (drop (pins_of box) p)) = cc in
    ap₂ (λ (v w : List Bool). v ++ w) (sym own) (ins_joined boxes bits (drop (pins_of box) p) (omega (arith, l, sums, length-drop (pins_of box) p)) rest)
    ∙ sym (map-append (bit_of bits) box.ins (in_places boxes))

pub ins_split : (boxes : List Pins) (bits p : List Bool) → pin_count boxes ≤ length p → flat_map (λ (c : PinBits). c.ins) (point_pins boxes p) ≡ map (bit_of bits) (in_places boxes) →
    all_ins boxes bits ≡ map (λ (c : PinBits). c.ins) (point_pins boxes p)
ins_split [] bits p l e = refl
ins_split (box ∷ boxes) bits p l e =
    let k = length box.ins in
    let sums = sum_by-cons pins_of box boxes in
    let long : length (take k p) ≡ length (map (bit_of bits) box.ins) = omega (arith, length-take k p, length-map box.ins (bit_of bits), l, sums) in
    let parts = parts_same (take k p) (map (bit_of bits) box.ins) (flat_map (λ (c : PinBits). c.ins) (point_pins boxes (drop (pins_of box) p))) (map (bit_of bits) (in_places boxes)) long (e ∙ map-append (bit_of bits) box.ins (in_places boxes)) in
    ap₂ (λ (v : List Bool) (w : List (List Bool)). v ∷ w) (sym parts.0) (ins_split boxes bits (drop (pins_of box) p) (omega (arith, l, sums, length-drop (pins_of box) p)) parts.1)

pub ins_count : (boxes : List Pins) (p : List Bool) → pin_count boxes ≤ length p → length (flat_map (λ (c : PinBits). c.ins) (point_pins boxes p)) ≡ length (in_places boxes)
ins_count [] p l = refl
ins_count (box ∷ boxes) p l =
    let k = length box.ins in
    let sums = sum_by-cons pins_of box boxes in
    let rest = ins_count boxes (drop (pins_of box) p) (omega (arith, l, sums, length-drop (pins_of box) p)) in
    omega (arith, rest, length-append (take k p) (flat_map (λ (c : PinBits). c.ins) (point_pins boxes (drop (pins_of box) p))), length-append box.ins (in_places boxes), length-take k p, l, sums)
