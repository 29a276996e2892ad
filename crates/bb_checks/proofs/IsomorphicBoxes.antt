-- Boxes with as many pins each: what is counted of them is the same, and so is what a point gives to their pins.
use Rattle.std.proofs.Common.{◌≡◌, ℕ, zero, suc, ◌+◌, ◌*◌, ◌^◌, ◌&&◌, ◌||◌, Bool, List, [], ◌∷◌, ◌++◌, length, map, take, drop, refl, sym, ap, ap₂, ◌∙◌, arith, length-append}
use Rattle.std.specs.Prelude.{sum_by}
use Rattle.std.proofs.lemmas.List.{length-map}
use Rattle.std.proofs.lemmas.List.Sums.{sum_by-cons}
use Rattle.bb_bits.specs.Truth.{Truth, quantified_block}
use Rattle.bb_net.specs.declared.cell.Cell.{Cell}
use Rattle.bb_net.specs.Completions.{table_bits}
use Rattle.bb_net.specs.Conditions.{PinBits}
use Rattle.bb_net.specs.Netlists.{Pins, box_at}
use Rattle.bb_net.specs.Pairs.{pin_count}
use Rattle.bb_net.specs.Values.{output_pins}
use Rattle.bb_sym.specs.Plain.{block_functions}
use Rattle.bb_input.specs.InputFunctions.{point_pins, in_places, box_quantified, boxes_quantified, box_functions, boxes_functions}
use Rattle.bb_iso.specs.Laws.Formulas.{formula_at, pin_formulas}

abbrev pub AreAsMany : List Pins → List Pins → Type 0
AreAsMany [] [] = Unit {0}
AreAsMany [] (q ∷ qs) = ⊥
AreAsMany (p ∷ ps) [] = ⊥
AreAsMany (p ∷ ps) (q ∷ qs) = (length p.ins ≡ length q.ins) × (length p.outs ≡ length q.outs) × AreAsMany ps qs

sums_isomorphic : (f : Pins → ℕ) → ((p q : Pins) → length p.ins ≡ length q.ins → length p.outs ≡ length q.outs → f p ≡ f q) → (ps qs : List Pins) → AreAsMany ps qs → sum_by f ps ≡ sum_by f qs
sums_isomorphic f same [] [] h = refl
sums_isomorphic f same [] (q ∷ qs) h = absurd h
sums_isomorphic f same (p ∷ ps) [] h = absurd h
sums_isomorphic f same (p ∷ ps) (q ∷ qs) h = sum_by-cons f p ps ∙ ap₂ (λ (n m : ℕ). n + m) (same p q h.0 h.1) (sums_isomorphic f same ps qs h.2) ∙ sym (sum_by-cons f q qs)

pub output_pins_isomorphic : (ps qs : List Pins) → AreAsMany ps qs → output_pins ps ≡ output_pins qs
output_pins_isomorphic ps qs h = sums_isomorphic (λ (pins : Pins). length pins.outs) (λ p q ins outs. outs) ps qs h

pub pin_count_isomorphic : (ps qs : List Pins) → AreAsMany ps qs → pin_count ps ≡ pin_count qs
pin_count_isomorphic ps qs h = sums_isomorphic (λ (pins : Pins). length pins.ins + length pins.outs) (λ p q ins outs. ap₂ (λ (n m : ℕ). n + m) ins outs) ps qs h

pub table_bits_isomorphic : (ps qs : List Pins) → AreAsMany ps qs → table_bits ps ≡ table_bits qs
table_bits_isomorphic ps qs h = sums_isomorphic (λ (pins : Pins). length pins.outs * 2 ^ length pins.ins) (λ p q ins outs. ap₂ (λ (n m : ℕ). m * 2 ^ n) ins outs) ps qs h

pub box_count_isomorphic : (ps qs : List Pins) → AreAsMany ps qs → length ps ≡ length qs
box_count_isomorphic [] [] h = refl
box_count_isomorphic [] (q ∷ qs) h = absurd h
box_count_isomorphic (p ∷ ps) [] h = absurd h
box_count_isomorphic (p ∷ ps) (q ∷ qs) h = ap suc (box_count_isomorphic ps qs h.2)

-- a box of the one has as many pins as that of the other
pub pins_at_isomorphic : (ps qs : List Pins) → AreAsMany ps qs → (b : ℕ) → (length (box_at ps b).ins ≡ length (box_at qs b).ins) × (length (box_at ps b).outs ≡ length (box_at qs b).outs)
pins_at_isomorphic [] [] h b = (refl, refl)
pins_at_isomorphic [] (q ∷ qs) h b = absurd h
pins_at_isomorphic (p ∷ ps) [] h b = absurd h
pins_at_isomorphic (p ∷ ps) (q ∷ qs) h zero = (h.0, h.1)
pins_at_isomorphic (p ∷ ps) (q ∷ qs) h (suc b) = pins_at_isomorphic ps qs h.2 b

pub first_boxes_isomorphic : (ps qs : List Pins) → AreAsMany ps qs → (n : ℕ) → AreAsMany (take n ps) (take n qs)
first_boxes_isomorphic ps qs h zero = tt
first_boxes_isomorphic [] [] h (suc n) = tt
first_boxes_isomorphic [] (q ∷ qs) h (suc n) = absurd h
first_boxes_isomorphic (p ∷ ps) [] h (suc n) = absurd h
first_boxes_isomorphic (p ∷ ps) (q ∷ qs) h (suc n) = (h.0, h.1, first_boxes_isomorphic ps qs h.2 n)

pub last_boxes_isomorphic : (ps qs : List Pins) → AreAsMany ps qs → (n : ℕ) → AreAsMany (drop n ps) (drop n qs)
last_boxes_isomorphic ps qs h zero = h
last_boxes_isomorphic [] [] h (suc n) = tt
last_boxes_isomorphic [] (q ∷ qs) h (suc n) = absurd h
last_boxes_isomorphic (p ∷ ps) [] h (suc n) = absurd h
last_boxes_isomorphic (p ∷ ps) (q ∷ qs) h (suc n) = last_boxes_isomorphic ps qs h.2 n

pub in_places_isomorphic : (ps qs : List Pins) → AreAsMany ps qs → length (in_places ps) ≡ length (in_places qs)
in_places_isomorphic [] [] h = refl
in_places_isomorphic [] (q ∷ qs) h = absurd h
in_places_isomorphic (p ∷ ps) [] h = absurd h
in_places_isomorphic (p ∷ ps) (q ∷ qs) h =
    let rest = in_places_isomorphic ps qs h.2 in
    let first = h.0 in
    omega (arith, first, rest, length-append p.ins (in_places ps), length-append q.ins (in_places qs))

-- the bits that a point gives to the pins of a box
own_bits : ℕ → ℕ → List Bool → PinBits
own_bits ins outs point = record { ins = take ins point; outs = take outs (drop ins point) }

pub pin_bits_isomorphic : (ps qs : List Pins) → AreAsMany ps qs → (point : List Bool) → point_pins ps point ≡ point_pins qs point
unfolding own_bits
pin_bits_isomorphic [] [] h point = refl
pin_bits_isomorphic [] (q ∷ qs) h point = absurd h
pin_bits_isomorphic (p ∷ ps) [] h point = absurd h
pin_bits_isomorphic (p ∷ ps) (q ∷ qs) h point =
    ap₂ (λ (i o : ℕ). own_bits i o point ∷ point_pins ps (drop (i + o) point)) h.0 h.1
    ∙ ap (λ (rest : List PinBits). own_bits (length q.ins) (length q.outs) point ∷ rest) (pin_bits_isomorphic ps qs h.2 (drop (length q.ins + length q.outs) point))

-- the variables of one box quantified, and the functions on the way, by its numbers of pins
outs_by : ℕ → ℕ → ℕ → Truth → Truth
outs_by ins outs first t = quantified_block ◌&&◌ (first + ins) outs t

box_by : ℕ → ℕ → ℕ → Truth → Truth
box_by ins outs first t = quantified_block ◌||◌ first ins (outs_by ins outs first t)

functions_by : ℕ → ℕ → ℕ → Truth → List Truth
functions_by ins outs first t = block_functions ◌&&◌ (first + ins) outs t ++ block_functions ◌||◌ first ins (outs_by ins outs first t)

pub boxes_quantified_isomorphic : (ps qs : List Pins) → AreAsMany ps qs → (first : ℕ) (t : Truth) → boxes_quantified first ps t ≡ boxes_quantified first qs t
unfolding outs_by box_by
boxes_quantified_isomorphic [] [] h first t = refl
boxes_quantified_isomorphic [] (q ∷ qs) h first t = absurd h
boxes_quantified_isomorphic (p ∷ ps) [] h first t = absurd h
boxes_quantified_isomorphic (p ∷ ps) (q ∷ qs) h first t =
    ap₂ (λ (i o : ℕ). box_by i o first (boxes_quantified (first + (i + o)) ps t)) h.0 h.1
    ∙ ap (λ (u : Truth). box_quantified first q u) (boxes_quantified_isomorphic ps qs h.2 (first + (length q.ins + length q.outs)) t)

pub boxes_functions_isomorphic : (ps qs : List Pins) → AreAsMany ps qs → (first : ℕ) (t : Truth) → boxes_functions first ps t ≡ boxes_functions first qs t
unfolding outs_by functions_by
boxes_functions_isomorphic [] [] h first t = refl
boxes_functions_isomorphic [] (q ∷ qs) h first t = absurd h
boxes_functions_isomorphic (p ∷ ps) [] h first t = absurd h
boxes_functions_isomorphic (p ∷ ps) (q ∷ qs) h first t =
    let next = first + (length q.ins + length q.outs) in
    ap₂ (λ (i o : ℕ). boxes_functions (first + (i + o)) ps t ++ functions_by i o first (boxes_quantified (first + (i + o)) ps t)) h.0 h.1
    ∙ ap₂ (λ (us : List Truth) (u : Truth). us ++ box_functions first q u) (boxes_functions_isomorphic ps qs h.2 next t) (boxes_quantified_isomorphic ps qs h.2 next t)

-- boxes whose pins have the same formulas have as many
module _ (cells others : List Cell) where
  pub as_many : (ps qs : List Pins) → map (pin_formulas cells) ps ≡ map (pin_formulas others) qs → AreAsMany ps qs
  as_many [] [] e = tt
  as_many [] (q ∷ qs) e = cc
  as_many (p ∷ ps) [] e = cc
  as_many (p ∷ ps) (q ∷ qs) e =
      let first : pin_formulas cells p ≡ pin_formulas others q = cc in
      let rest : map (pin_formulas cells) ps ≡ map (pin_formulas others) qs = cc in (
        sym (length-map p.ins (formula_at cells)) ∙ ap (λ f. length f.ins) first ∙ length-map q.ins (formula_at others),
        sym (length-map p.outs (formula_at cells)) ∙ ap (λ f. length f.outs) first ∙ length-map q.outs (formula_at others),
        as_many ps qs rest,
      )
