-- one box: least rows are least outputs, and rows that suit are a table that agrees
use Rattle.std.proofs.Common.{◌≡◌, ◌==◌, ◌<◌, ◌≤◌, ℕ, zero, suc, ◌+◌, ◌*◌, ◌^◌, inl, inr, get_or, Bool, true, false, List, [], ◌∷◌, ◌++◌, length, map, take, drop, replicate, refl, sym, ap, ap₂, ◌∙◌, subst, subst₂, arith, length-append, length-take, length-drop, append-nil, append_assoc, take-append-drop, get_or-take, get_or-drop}
use Rattle.std.proofs.lemmas.Bool.{cases_lt}
use Rattle.std.proofs.lemmas.List.{length-replicate, length-map, take-append-le, get_or_default}
use Rattle.std.proofs.Math.Seq.{take-append_seam}
use Rattle.std.proofs.lemmas.List.Sums.{sum_by-cons}
use Rattle.bb_bits.specs.Numbers.{number_of}
use Rattle.bb_bits.specs.Tables.{TableBits, HasAllBits, row_of, table_bit}
use Rattle.bb_bits.specs.Truth.{Truth, truth_at}
use Rattle.bb_bits.specs.Laws.TruthLaws.{QuantifierLaws}
use Rattle.bb_net.specs.Equivalence.{AllRight, TablesMakeEquivalent}
use Rattle.bb_net.specs.Conditions.{all_outs, all_ins, ChoicesSuit, InputsHaveOutputs, SomeChoicesSuit}
use Rattle.bb_net.specs.Netlists.{Netlist, Pins, IsNetlist, box_at}
use Rattle.bb_net.specs.Pairs.{pin_count}
use Rattle.bb_net.specs.Values.{bit_of, flat, flat_with, free_bit, tabled_bit, table_at, output_pins, FitBoxes, ValueGoesByBoxes}
use Rattle.bb_quant.specs.Inside.LeastPoints.{BeginsAs}
use Rattle.bb_sym.specs.Inside.Made.{Represents, ref_at}
use Rattle.bb_sym.specs.Laws.{FunctionLaws, PointLaws}
use Rattle.bb_uniq.specs.declared.store.Ref.{Ref}
use Rattle.bb_input.specs.Inside.Answers.{AreLeastOutputs, AreLeastTables}
use Rattle.bb_input.specs.InputFunctions.{pins_and_inputs, point_pins, refuted, boxes_quantified}
use Rattle.bb_input.specs.declared.staging.Prefix.{Prefix}
use Rattle.bb_input.specs.Inside.Prefixes.{IsPrefix}
use Rattle.bb_input.specs.Inside.Rows.{IsLeastRow, HasLeastRows}
use Rattle.bb_input.proofs.OrderLemmas.{pins_of}
use Rattle.bb_input.proofs.Points.{bits_push}
use Rattle.bb_input.proofs.Suits.{suits_of_false, false_of_suits}

module _ (quantifiers : QuantifierLaws) (functions : FunctionLaws) (points : PointLaws) (spec imp : Netlist) (box : Pins) (one : imp.boxes ≡ box ∷ []) where
  abbrev k : ℕ
  k = length box.ins

  abbrev m : ℕ
  m = length box.outs

  abbrev t : Truth
  t = refuted spec imp

  pins_are : pin_count imp.boxes ≡ k + m
  pins_are = let e = ap pin_count one in let f = sum_by-cons pins_of box [] in omega (arith, e, f)

  outs_are : output_pins imp.boxes ≡ m
  outs_are = let e = ap output_pins one in let f = sum_by-cons (λ (pins : Pins). length pins.outs) box [] in omega (arith, e, f)

  chosen_is : (ins outs : List Bool) → length ins ≡ k → length outs ≡ m → point_pins imp.boxes (ins ++ outs) ≡ record { ins = ins; outs = outs } ∷ []
  chosen_is ins outs f g = ap (λ (boxes : List Pins). point_pins boxes (ins ++ outs)) one ∙ bits_push [] box [] ins outs refl f g

  prefix : (ins outs : List Bool) → length ins ≡ k → length outs ≡ m → length (ins ++ outs) ≡ pin_count imp.boxes
  prefix ins outs f g = omega (arith, length-append ins outs, f, g, pins_are)

  suit_of_zero : (ins outs w : List Bool) → length ins ≡ k → length outs ≡ m → length w ≡ imp.inputs → truth_at t ((ins ++ outs) ++ w) ≡ false → ChoicesSuit spec imp (record { ins = ins; outs = outs } ∷ [])
  suit_of_zero ins outs w f g l none = subst (ChoicesSuit spec imp) (chosen_is ins outs f g) (suits_of_false quantifiers functions spec imp (ins ++ outs) w (prefix ins outs f g) l none)

  zero_of_suit : (ins outs w : List Bool) → length ins ≡ k → length outs ≡ m → length w ≡ imp.inputs → ChoicesSuit spec imp (record { ins = ins; outs = outs } ∷ []) → truth_at t ((ins ++ outs) ++ w) ≡ false
  zero_of_suit ins outs w f g l suit = false_of_suits quantifiers functions spec imp (ins ++ outs) w (prefix ins outs f g) l (subst (ChoicesSuit spec imp) (sym (chosen_is ins outs f g)) suit)

  answer : SomeChoicesSuit spec imp → (ins : List Bool) → length ins ≡ k → (outs : List Bool) × (length outs ≡ m) × ChoicesSuit spec imp (record { ins = ins; outs = outs } ∷ [])
  answer choices = subst (λ (boxes : List Pins). InputsHaveOutputs (ChoicesSuit spec imp) boxes []) one choices

  -- for all bits at the input pins there is a point
  pub some_point : SomeChoicesSuit spec imp → (n : ℕ) → n ≡ pins_and_inputs imp → (ins : List Bool) → length ins ≡ k → (q : List Bool) × (length q ≡ n) × (take k q ≡ ins) × (truth_at t q ≡ false)
  some_point choices n v ins f =
      let found = answer choices ins f in
      let w = replicate imp.inputs false in
      let lw : length w ≡ imp.inputs = length-replicate imp.inputs false in
      let q = (ins ++ found.0) ++ w in (
        q,
        omega (arith, length-append (ins ++ found.0) w, prefix ins found.0 f found.1, lw, v),
        take-append-le k (ins ++ found.0) w (omega (arith, length-append ins found.0, f)) ∙ (ap (λ j. take j (ins ++ found.0)) (sym f) ∙ take-append_seam ins found.0),
        zero_of_suit ins found.0 w f found.1 lw found.2,
      )

  -- the least row is the least outputs
  pub row_least : (n : ℕ) → n ≡ pins_and_inputs imp → (ins outs : List Bool) → length ins ≡ k → IsLeastRow n t m ins outs → AreLeastOutputs spec imp ins outs
  row_least n v ins outs f row =
      let p = row.point in
      let w = drop m (drop k p) in
      let begins : take k p ≡ ins = ap (λ j. take j p) (sym f) ∙ row.begins in
      let is : outs ≡ take m (drop k p) = row.row ∙ ap (λ j. take m (drop j p)) f in
      let lo : length outs ≡ m = ap length is ∙ (let h : length (take m (drop k p)) ≡ m = omega (arith, length-take m (drop k p), length-drop k p, row.whole, v, pins_are) in h) in
      let lw : length w ≡ imp.inputs = omega (arith, length-drop m (drop k p), length-drop k p, row.whole, v, pins_are) in
      let parts : p ≡ (ins ++ outs) ++ w =
      sym (take-append-drop k p) ∙ (ap₂ (λ (x y : List Bool). x ++ y) begins (sym (take-append-drop m (drop k p)) ∙ ap (λ (x : List Bool). x ++ w) (sym is)) ∙ sym (append_assoc ins outs w)) in
      record {
        whole = lo ∙ sym outs_are;
        suit = suit_of_zero ins outs w f lo lw (ap (truth_at t) (sym parts) ∙ row.least.bit);
        least = λ others long suit.
            let g : length others ≡ m = long ∙ outs_are in
            let z = replicate imp.inputs false in
            let lz : length z ≡ imp.inputs = length-replicate imp.inputs false in
            let q = (ins ++ others) ++ z in
            let same : take k q ≡ ins =
            take-append-le k (ins ++ others) z (omega (arith, length-append ins others, f)) ∙ (ap (λ j. take j (ins ++ others)) (sym f) ∙ take-append_seam ins others) in
            let there : BeginsAs (length ins) p q = (
              omega (arith, length-append (ins ++ others) z, prefix ins others f g, lz, row.whole, v),
              ap (λ j. take j q) f ∙ (same ∙ sym row.begins),
            ) in
            let le = row.least.least q there (zero_of_suit ins others z f g lz suit) in
            let first = points.first_bits (ins ++ outs) w (ins ++ others) imp.inputs lw (subst (λ (x : List Bool). number_of x ≤ number_of q) parts le) in
            let a = points.append ins outs in
            let b = points.append ins others in
            let power : 2 ^ length outs ≡ 2 ^ length others = ap (λ j. 2 ^ j) (lo ∙ sym g) in
            let c : number_of (ins ++ outs) ≡ number_of ins * 2 ^ length others + number_of outs = a ∙ ap (λ j. number_of ins * j + number_of outs) power in
            omega (arith, b, c, first);
      }

  -- without output pins there is nothing to choose
  pub none_least : SomeChoicesSuit spec imp → m ≡ 0 → (ins outs : List Bool) → length ins ≡ k → outs ≡ [] → AreLeastOutputs spec imp ins outs
  none_least choices e ins outs f none =
      let found = answer choices ins f in
      let same : found.0 ≡ outs = empty found.0 (found.1 ∙ e) ∙ sym none in
      record {
        whole = ap length none ∙ sym (outs_are ∙ e);
        suit = subst (λ (z : List Bool). ChoicesSuit spec imp (record { ins = ins; outs = z } ∷ [])) same found.2;
        least = λ others long suit. let h = ap number_of none in omega (arith, h);
      }
    where
      empty : (xs : List Bool) → length xs ≡ 0 → xs ≡ []
      empty [] l = refl
      empty (x ∷ xs) l = absurd (omega (arith, l))

  -- rows that suit are a table that agrees
  module _ (swap : ValueGoesByBoxes) (kept : IsNetlist imp) (table : TableBits) (ti : table.inputs ≡ k) (to : table.outputs ≡ m) (whole : HasAllBits table) (rows : (ins : List Bool) → length ins ≡ k → AreLeastOutputs spec imp ins (row_of table (number_of ins))) where
    only : (b : ℕ) → b < length imp.boxes → b ≡ 0
    only b l = let e = ap length one in omega (arith, l, e)

    here : box_at imp.boxes 0 ≡ box
    here = ap (λ (boxes : List Pins). box_at boxes 0) one

    at_zero : (P : ℕ → Type 0) → P 0 → (b : ℕ) → b < length imp.boxes → P b
    at_zero P h b l = subst P (sym (only b l)) h

    fits : FitBoxes (table ∷ []) imp.boxes
    fits = record {
      count = sym (ap length one);
      inputs = at_zero (λ b. (table_at (table ∷ []) b).inputs ≡ length (box_at imp.boxes b).ins) (ti ∙ sym (ap (λ (pins : Pins). length pins.ins) here));
      outputs = at_zero (λ b. (table_at (table ∷ []) b).outputs ≡ length (box_at imp.boxes b).outs) (to ∙ sym (ap (λ (pins : Pins). length pins.outs) here));
      whole = at_zero (λ b. HasAllBits (table_at (table ∷ []) b)) whole;
    }

    agrees : TablesMakeEquivalent spec imp (table ∷ [])
    agrees x vector =
        let bits = flat_with imp x (table ∷ []) in
        let ins = map (bit_of bits) box.ins in
        let outs = row_of table (number_of ins) in
        let li : length ins ≡ k = length-map box.ins (bit_of bits) in
        let z = all_outs (record { ins = ins; outs = outs } ∷ []) in
        let same : bits ≡ flat imp x z = swap imp kept x (tabled_bit (table ∷ [])) (free_bit imp.boxes z)
        (λ b p lb lp. pin_same bits ins z outs refl (append-nil outs) refl b p lb lp) in
        let led : all_ins imp.boxes (flat imp x z) ≡ ins ∷ [] = ap (all_ins imp.boxes) (sym same) ∙ ap (λ (boxes : List Pins). all_ins boxes bits) one in
        subst (AllRight spec imp x) (sym same) ((rows ins li).suit x vector led)
      where
        pin_same : (bits ins z outs : List Bool) → ins ≡ map (bit_of bits) box.ins → z ≡ outs → outs ≡ row_of table (number_of ins) → (b p : ℕ) → b < length imp.boxes → p < length (box_at imp.boxes b).outs →
            tabled_bit (table ∷ []) b p (map (bit_of bits) (box_at imp.boxes b).ins) ≡ free_bit imp.boxes z b p (map (bit_of bits) (box_at imp.boxes b).ins)
        pin_same bits ins z outs ei ez er b p lb lp =
            let zero_box = only b lb in
            let low : p < table.outputs = omega (arith, lp, ap (λ j. length (box_at imp.boxes j).outs) zero_box, ap (λ (pins : Pins). length pins.outs) here, to) in
            let number : number_of (map (bit_of bits) (box_at imp.boxes b).ins) ≡ number_of ins = ap number_of (ap (λ (pins : Pins). map (bit_of bits) pins.ins) (ap (box_at imp.boxes) zero_box ∙ here) ∙ sym ei) in
            let start : output_pins (take b imp.boxes) + p ≡ p = omega (arith, ap (λ j. output_pins (take j imp.boxes)) zero_box) in
            ap₂ (λ j i. table_bit (table_at (table ∷ []) j) i p) zero_box number
            ∙ sym (ap (bit_of z) start ∙ (ap (λ (v : List Bool). bit_of v p) (ez ∙ er) ∙ (get_or-take table.outputs (drop (number_of ins * table.outputs) table.rows) p false low ∙ get_or-drop (number_of ins * table.outputs) table.rows p false)))

    pub least_one : AreLeastTables spec imp (table ∷ [])
    least_one = record {
      completion = record { fit = fits; agree = agrees };
      rows = at_zero (λ b. (ins : List Bool) → length ins ≡ length (box_at imp.boxes b).ins → AreLeastOutputs spec imp ins (row_of (table_at (table ∷ []) b) (number_of ins)))
          (λ ins l. rows ins (l ∙ ap (λ (pins : Pins). length pins.ins) here));
    }

-- without boxes there is no table
pub least_none : (swap : ValueGoesByBoxes) (spec imp : Netlist) → IsNetlist imp → imp.boxes ≡ [] → SomeChoicesSuit spec imp → AreLeastTables spec imp []
least_none swap spec imp kept none choices =
    let suit : ChoicesSuit spec imp [] = subst (λ (boxes : List Pins). InputsHaveOutputs (ChoicesSuit spec imp) boxes []) none choices in
    let no : (b : ℕ) → b < length imp.boxes → ⊥ = λ b l. (let e = ap length none in omega (arith, l, e)) in
    record {
      completion = record {
        fit = record { count = sym (ap length none); inputs = λ b l. absurd (no b l); outputs = λ b l. absurd (no b l); whole = λ b l. absurd (no b l) };
        agree = λ x vector.
            let same = swap imp kept x (tabled_bit []) (free_bit imp.boxes []) (λ b p l lp. absurd (no b l)) in
            subst (AllRight spec imp x) (sym same) (suit x vector (ap (λ (boxes : List Pins). all_ins boxes (flat imp x [])) none));
      };
      rows = λ b l. absurd (no b l);
    }

pub zeros_number : (k n : ℕ) → number_of (take k (replicate n false)) ≡ 0
zeros_number zero n = refl
zeros_number (suc k) zero = refl
zeros_number (suc k) (suc n) = zeros_number k n

pub some_there : (n : ℕ) → false ≡ (n == 0) → 0 < n
some_there zero e = absurd (let h : false ≡ true = e in cc)
some_there (suc n) e = omega arith

zero_there : (n : ℕ) → true ≡ (n == 0) → n ≡ 0
zero_there n e = grind (arith, e)

pub none_there : (boxes : List Pins) → true ≡ (length boxes == 0) → boxes ≡ []
none_there [] e = refl
none_there (box ∷ boxes) e = absurd (let h = zero_there (length (box ∷ boxes)) e in omega (arith, h))

-- the only box
pub only_box : (boxes real : List Pins) (box : Pins) → boxes ≡ real → length real ≤ 1 → 0 < length boxes → box ≡ get_or boxes 0 box → real ≡ box ∷ []
only_box [] real box e few there is = absurd (omega (arith, there))
only_box (first ∷ []) real box e few there is = sym e ∙ ap (λ (pins : Pins). pins ∷ []) (sym is)
only_box (first ∷ second ∷ boxes) real box e few there is = absurd (let l = ap length e in omega (arith, l, few))

module _ (quantifiers : QuantifierLaws) (functions : FunctionLaws) (points : PointLaws) (spec imp : Netlist) (box : Pins) (one : imp.boxes ≡ box ∷ []) (choices : SomeChoicesSuit spec imp) (n : ℕ) (v : n ≡ pins_and_inputs imp) where
  pub rows_least : ((bits : List Bool) → number_of bits < 2 ^ length bits) → (table : TableBits) → table.inputs ≡ length box.ins → table.outputs ≡ length box.outs → (0 < length box.outs → HasLeastRows n (refuted spec imp) table (2 ^ length box.ins)) →
      (ins : List Bool) → length ins ≡ length box.ins → AreLeastOutputs spec imp ins (row_of table (number_of ins))
  rows_least below table ti to rows ins l =
      elim (cases_lt 0 (length box.outs)) [
        | inl some ↦
            let power : 2 ^ length ins ≡ 2 ^ length box.ins = ap (λ j. 2 ^ j) l in
            let small = below ins in
            row_least quantifiers functions points spec imp box one n v ins (row_of table (number_of ins)) l
            (subst (λ j. IsLeastRow n (refuted spec imp) j ins (row_of table (number_of ins))) to (rows some ins (l ∙ sym ti) (omega (arith, small, power))))
        | inr none ↦
            let e : length box.outs ≡ 0 = omega (arith, none) in
            none_least quantifiers functions points spec imp box one choices e ins (row_of table (number_of ins)) l
            (ap (λ j. take j (drop (number_of ins * table.outputs) table.rows)) (to ∙ e))
      ]

-- with one box the function of its stage is the one from which the quantification starts
pub only_stage : (spec imp : Netlist) (made : Prefix) → IsPrefix spec imp made → (box : Pins) → imp.boxes ≡ box ∷ [] → (r : Ref) → r ≡ get_or made.stages.items 0 r → Represents made.diagrams.store (refuted spec imp) r
only_stage spec imp made is box one r at =
    let there : 0 < length imp.boxes = omega (arith, ap length one) in
    let here : ref_at made.stages.items 0 ≡ r = sym (at ∙ get_or_default made.stages.items 0 r (record { 0 = 0 }) (omega (arith, there, is.count))) in
    subst₂ (Represents made.diagrams.store) (ap (λ (boxes : List Pins). boxes_quantified (pin_count (take 1 boxes)) (drop 1 boxes) (refuted spec imp)) one) here (is.stages 0 there)
