-- The rows that the code fills are nested rows.
use Rattle.std.proofs.Common.{◌≡◌, ◌<◌, ◌≤◌, ◌↔◌, ℕ, ◌+◌, ◌-◌, ◌*◌, ◌^◌, Bool, false, List, [], ◌∷◌, ◌++◌, length, take, drop, replicate, refl, sym, ap, ap₂, ◌∙◌, subst, arith, length-append, length-take, length-drop, append_assoc, take-append-drop}
use Rattle.std.proofs.lemmas.List.{length-replicate, take_at, take_more}
use Rattle.std.proofs.lemmas.List.Sums.{sum_by-append, sum_by-cons}
use Rattle.bb_bits.specs.Numbers.{number_of}
use Rattle.bb_bits.specs.Truth.{Truth, truth_at}
use Rattle.bb_net.specs.Conditions.{PinBits, ChoicesSuit, InputsHaveOutputs}
use Rattle.bb_net.specs.Netlists.{Netlist, Pins, box_at}
use Rattle.bb_net.specs.Pairs.{pin_count}
use Rattle.bb_quant.specs.Inside.LeastPoints.{BeginsAs}
use Rattle.bb_sym.specs.Laws.{PointLaws}
use Rattle.bb_input.specs.InputFunctions.{pins_and_inputs, point_pins, stage}
use Rattle.bb_input.specs.Laws.{StagesSay}
use Rattle.bb_nest.specs.Rows.{Suffice, IsRow, IsLeast, AreZeros}
use Rattle.bb_nest.specs.Inside.StageRows.{IsStageRow, AtLeast, AtNone}
use Rattle.bb_nest.proofs.Points.{pins_of, bits_prefix, bits_push}

pub count_push : (done : List Pins) (box : Pins) → pin_count (done ++ box ∷ []) ≡ pin_count done + pins_of box
count_push done box = let e = sum_by-append pins_of done (box ∷ []) in let f = sum_by-cons pins_of box [] in omega (arith, e, f)

abbrev pub no_pins : Pins
no_pins = record { ins = []; outs = [] }

-- the pins of the boxes up to one are among all pins
pub pins_fit : (boxes : List Pins) (b : ℕ) → b < length boxes → pin_count (take b boxes) + pins_of (box_at boxes b) ≤ pin_count boxes
pins_fit boxes b l =
    let e = ap pin_count (take-append-drop (b + 1) boxes) in
    let f = sum_by-append pins_of (take (b + 1) boxes) (drop (b + 1) boxes) in
    let g = ap pin_count (take_more boxes b no_pins l) in
    let h = count_push (take b boxes) (box_at boxes b) in
    omega (arith, e, f, g, h)

module _ (stages : StagesSay) (points : PointLaws) (spec imp : Netlist) (b : ℕ) (l : b < length imp.boxes) where
  abbrev before : List Pins
  before = take b imp.boxes

  abbrev box : Pins
  box = box_at imp.boxes b

  abbrev k : ℕ
  k = length box.ins

  abbrev m : ℕ
  m = length box.outs

  abbrev t : Truth
  t = stage spec imp b

  module _ (seen ins : List Bool) (e : length seen ≡ pin_count before) (f : length ins ≡ k) where
    abbrev earlier : List PinBits
    earlier = point_pins before seen

    -- the bits of a point that begins so
    bits_are : (outs w : List Bool) → length outs ≡ m → point_pins (take (b + 1) imp.boxes) (((seen ++ ins) ++ outs) ++ w) ≡ earlier ++ record { ins = ins; outs = outs } ∷ []
    bits_are outs w g =
        let pre = seen ++ (ins ++ outs) in
        let long : pin_count (before ++ box ∷ []) ≤ length pre = omega (arith, count_push before box, length-append seen (ins ++ outs), length-append ins outs, e, f, g) in
        ap₂ point_pins (take_more imp.boxes b no_pins l) (ap (λ (v : List Bool). v ++ w) (append_assoc seen ins outs)) ∙ (bits_prefix (before ++ box ∷ []) pre w long ∙ bits_push before box seen ins outs e f g)

    reports : (outs w : List Bool) → length outs ≡ m → length (((seen ++ ins) ++ outs) ++ w) ≡ pins_and_inputs imp → (truth_at t (((seen ++ ins) ++ outs) ++ w) ≡ false) ↔ Suffice spec imp b earlier ins outs
    reports outs w g whole =
        subst (λ (chosen : List PinBits). (truth_at t (((seen ++ ins) ++ outs) ++ w) ≡ false) ↔ InputsHaveOutputs (ChoicesSuit spec imp) (drop (b + 1) imp.boxes) chosen)
        (bits_are outs w g) (stages spec imp b l (((seen ++ ins) ++ outs) ++ w) whole)

    -- with zeros after
    abbrev spare : ℕ
    spare = pins_and_inputs imp - (pin_count before + (k + m))

    point_with : (outs w : List Bool) → length outs ≡ m → length w ≡ spare → length (((seen ++ ins) ++ outs) ++ w) ≡ pins_and_inputs imp
    point_with outs w g lw =
        let fits = pins_fit imp.boxes b l in
        omega (arith, length-append ((seen ++ ins) ++ outs) w, length-append (seen ++ ins) outs, length-append seen ins, e, f, g, lw, fits)

    begins : (outs w : List Bool) → take (length (seen ++ ins)) (((seen ++ ins) ++ outs) ++ w) ≡ seen ++ ins
    begins outs w =
        ap (take (length (seen ++ ins))) (append_assoc (seen ++ ins) outs w) ∙ take_at (seen ++ ins) (outs ++ w) (length (seen ++ ins)) refl

    pub row_of_stage : (outs : List Bool) → IsStageRow (pins_and_inputs imp) t m (seen ++ ins) outs → IsRow spec imp b earlier ins outs
    row_of_stage outs (AtNone none zeros) = AreZeros (λ others g suffice.
        let w = replicate spare false in
        let whole = point_with others w g (length-replicate spare false) in
        none (((seen ++ ins) ++ others) ++ w) whole (begins others w) ((reports others w g whole).1 suffice)) zeros
    row_of_stage outs (AtLeast p whole first least row) = IsLeast long ((reports outs w long there).0 (ap (truth_at t) (sym parts) ∙ least.bit)) lesser
      where
        q : ℕ
        q = length (seen ++ ins)

        fits : (q + m ≤ length p) × (q ≡ pin_count before + k)
        fits = let h = pins_fit imp.boxes b l in let c = length-append seen ins in (omega (arith, h, c, e, f, whole), omega (arith, c, e, f))

        w : List Bool
        w = drop m (drop q p)

        long : length outs ≡ m
        long = ap length row ∙ (let h : length (take m (drop q p)) ≡ m = omega (arith, length-take m (drop q p), length-drop q p, fits.0) in h)

        lw : length w ≡ spare
        lw = omega (arith, length-drop m (drop q p), length-drop q p, whole, fits.1)

        there : length (((seen ++ ins) ++ outs) ++ w) ≡ pins_and_inputs imp
        there = point_with outs w long lw

        parts : p ≡ ((seen ++ ins) ++ outs) ++ w
        parts =
            sym (take-append-drop q p) ∙ (ap₂ (λ (u v : List Bool). u ++ v) first (sym (take-append-drop m (drop q p)) ∙ ap (λ (v : List Bool). v ++ w) (sym row)) ∙ sym (append_assoc (seen ++ ins) outs w))

        lesser : (others : List Bool) → length others ≡ m → Suffice spec imp b earlier ins others → number_of outs ≤ number_of others
        lesser others g suffice =
            let z = replicate spare false in
            let full = point_with others z g (length-replicate spare false) in
            let other = ((seen ++ ins) ++ others) ++ z in
            let same : BeginsAs q p other = (full ∙ sym whole, begins others z ∙ sym first) in
            let less = least.least other same ((reports others z g full).1 suffice) in
            let heads = points.first_bits ((seen ++ ins) ++ outs) w ((seen ++ ins) ++ others) spare lw (subst (λ (v : List Bool). number_of v ≤ number_of other) parts less) in
            let a = points.append (seen ++ ins) outs in
            let c = points.append (seen ++ ins) others in
            let power : 2 ^ length outs ≡ 2 ^ length others = ap (λ j. 2 ^ j) (long ∙ sym g) in
            let d : number_of ((seen ++ ins) ++ outs) ≡ number_of (seen ++ ins) * 2 ^ length others + number_of outs = a ∙ ap (λ j. number_of (seen ++ ins) * j + number_of outs) power in
            omega (arith, c, d, heads)
