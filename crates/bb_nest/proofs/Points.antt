-- Points of the check by choices: the bits that they give to pins, and that each vector and all box outputs come from one.
use Rattle.std.proofs.Common.{◌≡◌, ◌≤◌, ◌+◌, ℕ, Bool, false, List, [], ◌∷◌, ◌++◌, length, take, drop, replicate, refl, sym, ap, ap₂, ◌∙◌, arith, length-append, length-take, length-drop, take_all, take-append-drop}
use Rattle.std.proofs.lemmas.List.{take-append-le, drop-append-le, drop-drop, length-replicate, take_at, drop_at}
use Rattle.std.proofs.lemmas.List.Sums.{sum_by-cons}
use Rattle.bb_bits.specs.Truth.{Truth, truth_at}
use Rattle.bb_net.specs.Conditions.{PinBits, all_outs}
use Rattle.bb_net.specs.Netlists.{Netlist, Pins}
use Rattle.bb_net.specs.Pairs.{pin_count}
use Rattle.bb_net.specs.Values.{bit_of, flat, output_pins}
use Rattle.bb_sym.specs.Laws.{FunctionLaws}
use Rattle.bb_sym.specs.Plain.{table, cell_bit}
use Rattle.bb_input.specs.InputFunctions.{pins_and_inputs, point_pins, boxes_first}
use Rattle.bb_nest.specs.Nested.{AreSame}

abbrev pub pins_of : Pins → ℕ
pins_of box = length box.ins + length box.outs

-- what follows the pins does not matter
pub bits_prefix : (boxes : List Pins) (pre x : List Bool) → pin_count boxes ≤ length pre → point_pins boxes (pre ++ x) ≡ point_pins boxes pre
bits_prefix [] pre x l = refl
bits_prefix (box ∷ boxes) pre x l =
    let k = length box.ins in
    let m = length box.outs in
    let sums = sum_by-cons pins_of box boxes in
    let ins = take-append-le k pre x (omega (arith, l, sums)) in
    let outs = ap (take m) (drop-append-le k pre x (omega (arith, l, sums))) ∙ take-append-le m (drop k pre) x (omega (arith, l, sums, length-drop k pre)) in
    ap₂ (λ (c : PinBits) (cs : List PinBits). c ∷ cs) (ap₂ (λ v w. record { ins = v; outs = w }) ins outs)
    (ap (point_pins boxes) (drop-append-le (k + m) pre x (omega (arith, l, sums))) ∙ bits_prefix boxes (drop (k + m) pre) x (omega (arith, l, sums, length-drop (k + m) pre)))

-- the bits of one more box
pub bits_push : (done : List Pins) (box : Pins) (pre ins outs : List Bool) → length pre ≡ pin_count done → length ins ≡ length box.ins → length outs ≡ length box.outs →
    point_pins (done ++ box ∷ []) (pre ++ (ins ++ outs)) ≡ point_pins done pre ++ record { ins = ins; outs = outs } ∷ []
bits_push [] box [] ins outs e f g =
    let after : drop (length box.ins) (ins ++ outs) ≡ outs = drop_at ins outs (length box.ins) f in
    ap₂ (λ v w. record { ins = v; outs = w } ∷ []) (take_at ins outs (length box.ins) f) (ap (take (length box.outs)) after ∙ take_all (length box.outs) outs (omega (arith, g)))
bits_push [] box (b ∷ pre) ins outs e f g = absurd (omega (arith, e))
bits_push (first ∷ done) box pre ins outs e f g =
    let k = length first.ins in
    let m = length first.outs in
    let sums = sum_by-cons pins_of first done in
    let x = ins ++ outs in
    let own_ins = take-append-le k pre x (omega (arith, e, sums)) in
    let own_outs = ap (take m) (drop-append-le k pre x (omega (arith, e, sums))) ∙ take-append-le m (drop k pre) x (omega (arith, e, sums, length-drop k pre)) in
    ap₂ (λ (c : PinBits) (cs : List PinBits). c ∷ cs) (ap₂ (λ v w. record { ins = v; outs = w }) own_ins own_outs)
    (ap (point_pins (done ++ box ∷ [])) (drop-append-le (k + m) pre x (omega (arith, e, sums))) ∙ bits_push done box (drop (k + m) pre) ins outs (omega (arith, e, sums, length-drop (k + m) pre)) f g)

count_outs : (boxes : List Pins) (p : List Bool) → pin_count boxes ≤ length p → length (all_outs (point_pins boxes p)) ≡ output_pins boxes
count_outs [] p l = refl
count_outs (box ∷ boxes) p l =
    let k = length box.ins in
    let m = length box.outs in
    let own = take m (drop k p) in
    let sums = sum_by-cons pins_of box boxes in
    let rest = count_outs boxes (drop (k + m) p) (omega (arith, l, sums, length-drop (k + m) p)) in
    omega (arith, rest, length-append own (all_outs (point_pins boxes (drop (k + m) p))), length-take m (drop k p), length-drop k p, l, sums, sum_by-cons (λ (pins : Pins). length pins.outs) box boxes)

-- a point with some bits at the output pins
abbrev pins_for : List Pins → List Bool → List Bool
pins_for [] z = []
pins_for (box ∷ boxes) z = replicate (length box.ins) false ++ (take (length box.outs) z ++ pins_for boxes (drop (length box.outs) z))

module _ (box : Pins) (boxes : List Pins) (z : List Bool) (l : length z ≡ output_pins (box ∷ boxes)) where
  own_outs : length (take (length box.outs) z) ≡ length box.outs
  own_outs = omega (arith, length-take (length box.outs) z, l, sum_by-cons (λ (pins : Pins). length pins.outs) box boxes)

  other_outs : length (drop (length box.outs) z) ≡ output_pins boxes
  other_outs = omega (arith, length-drop (length box.outs) z, l, sum_by-cons (λ (pins : Pins). length pins.outs) box boxes)

count_pins : (boxes : List Pins) (z : List Bool) → length z ≡ output_pins boxes → length (pins_for boxes z) ≡ pin_count boxes
count_pins [] z l = refl
count_pins (box ∷ boxes) z l =
    let zeros = replicate (length box.ins) false in
    let own = take (length box.outs) z in
    let rest = pins_for boxes (drop (length box.outs) z) in
    omega (arith, length-append zeros (own ++ rest), length-append own rest, length-replicate (length box.ins) false, own_outs box boxes z l, count_pins boxes (drop (length box.outs) z) (other_outs box boxes z l), sum_by-cons pins_of box boxes)

outs_for : (boxes : List Pins) (z : List Bool) → length z ≡ output_pins boxes → all_outs (point_pins boxes (pins_for boxes z)) ≡ z
outs_for [] [] l = refl
outs_for [] (b ∷ z) l = absurd (omega (arith, l))
outs_for (box ∷ boxes) z l =
    let k = length box.ins in
    let m = length box.outs in
    let zeros = replicate k false in
    let own = take m z in
    let rest = pins_for boxes (drop m z) in
    let after : drop k (zeros ++ (own ++ rest)) ≡ own ++ rest = drop_at zeros (own ++ rest) k (length-replicate k false) in
    let first : take m (drop k (zeros ++ (own ++ rest))) ≡ own = ap (take m) after ∙ take_at own rest m (own_outs box boxes z l) in
    let later : drop (k + m) (zeros ++ (own ++ rest)) ≡ rest = sym (drop-drop m k (zeros ++ (own ++ rest))) ∙ (ap (drop m) after ∙ drop_at own rest m (own_outs box boxes z l)) in
    ap₂ (λ (v w : List Bool). v ++ w) first (ap (λ (p : List Bool). all_outs (point_pins boxes p)) later ∙ outs_for boxes (drop m z) (other_outs box boxes z l)) ∙ take-append-drop m z

-- cells are the same exactly where their functions have one table
module _ (functions : FunctionLaws) (imp : Netlist) (a b : ℕ) where
  abbrev cell_table : ℕ → Truth
  cell_table cell = table (pins_and_inputs imp) (cell_bit (boxes_first imp) imp cell)

  pub tables_same : AreSame imp a b → cell_table a ≡ cell_table b
  tables_same same = functions.same (pins_and_inputs imp) (cell_bit (boxes_first imp) imp a) (cell_bit (boxes_first imp) imp b) (λ p long.
      same (drop (pin_count imp.boxes) p) (all_outs (point_pins imp.boxes p)) (omega (arith, length-drop (pin_count imp.boxes) p, long)) (count_outs imp.boxes p (omega (arith, long))))

  pub same_tables : cell_table a ≡ cell_table b → AreSame imp a b
  same_tables e x z vector outs = sym (bit a) ∙ (ap (λ t. truth_at t p) e ∙ bit b)
    where
      pre : List Bool
      pre = pins_for imp.boxes z

      p : List Bool
      p = pre ++ x

      count : length pre ≡ pin_count imp.boxes
      count = count_pins imp.boxes z outs

      pins : all_outs (point_pins imp.boxes p) ≡ z
      pins = ap all_outs (bits_prefix imp.boxes pre x (omega (arith, count))) ∙ outs_for imp.boxes z outs

      bit : (cell : ℕ) → truth_at (cell_table cell) p ≡ bit_of (flat imp x z) cell
      bit cell =
          functions.at_point (pins_and_inputs imp) (cell_bit (boxes_first imp) imp cell) p (omega (arith, length-append pre x, count, vector))
          ∙ ap₂ (λ (v w : List Bool). bit_of (flat imp v w) cell) (drop_at pre x (pin_count imp.boxes) count) pins
