-- Each pair has an answer: an error, or choices, and with one box whose table may be written down the table of the least rows.
use Rattle.std.proofs.Common.{◌≡◌, ◌⊎◌, ◌<◌, ◌≤◌, ◌+◌, ◌^◌, ◌∙◌, ℕ, zero, suc, Bool, List, [], ◌∷◌, length, map, get_or, Some, refl, sym, ap, subst, inl, inr, arith}
use Rattle.std.specs.Prelude.{slice_get}
use Rattle.std.specs.List.{range_with_len}
use Rattle.std.proofs.lemmas.Bool.{cases_lt}
use Rattle.std.proofs.lemmas.List.FromFn.{length-map-range_with_len, get_or-map-range_with_len}
use Rattle.bb_bits.specs.Contents.{HasShape}
use Rattle.bb_bits.specs.Numbers.{number_of, bits_of}
use Rattle.bb_bits.specs.Laws.RowLaws.{RowsHaveTable, RowsAreChosen}
use Rattle.bb_bits.specs.Tables.{TableBits, row_of}
use Rattle.bb_bits.specs.Laws.TruthLaws.{QuantifierLaws}
use Rattle.bb_lemmas.proofs.Chosen.{choose}
use Rattle.bb_lemmas.proofs.LeastBits.{Below, least_or_none}
use Rattle.bb_lemmas.proofs.Vectors.{vec_of}
use Rattle.bb_net.specs.Completions.{table_bits}
use Rattle.bb_net.specs.Conditions.{PinBits, ChoicesSuit, InputsHaveOutputs, SomeChoicesSuit, NoChoicesSuit}
use Rattle.bb_net.specs.Netlists.{Netlist, Pins, IsNetlist}
use Rattle.bb_net.specs.Values.{output_pins, ValueGoesByBoxes}
use Rattle.bb_sym.specs.Laws.{FunctionLaws, PointLaws}
use Rattle.bb_input.specs.declared.InputAnswer.{InputAnswer}
use Rattle.bb_input.specs.declared.InputAnswer.TheVariants.{Error, Clear, Repair}
use Rattle.bb_input.specs.Inside.Answers.{IsFinishable, AreLeastOutputs, AreLeastTables, IsAnswer}
use Rattle.bb_input.specs.Laws.{AnswersExist}
use Rattle.bb_input.proofs.OneBox.{least_one, least_none}

-- the laws of crates below on which this rests
pub record LawsBelow : Type 0 where
  pub quantifiers : QuantifierLaws
  pub functions : FunctionLaws
  pub points : PointLaws
  pub below : Below
  pub width : (n number : ℕ) → length (bits_of n number) ≡ n
  pub spelled : (bits : List Bool) → bits_of (length bits) (number_of bits) ≡ bits
  pub tables : RowsHaveTable
  pub chosen : RowsAreChosen
  pub swap : ValueGoesByBoxes
  pub suit : (spec imp : Netlist) (chosen : List PinBits) → ChoicesSuit spec imp chosen ⊎ (ChoicesSuit spec imp chosen → ⊥)
  pub choices : (spec imp : Netlist) → NoChoicesSuit spec imp ⊎ SomeChoicesSuit spec imp

module _ (laws : LawsBelow) (spec imp : Netlist) (kept : IsNetlist imp) (choices : SomeChoicesSuit spec imp) where
  module _ (box : Pins) (one : imp.boxes ≡ box ∷ []) where
    abbrev SuitsWith : List Bool → List Bool → Type 0
    SuitsWith ins outs = ChoicesSuit spec imp (record { ins = ins; outs = outs } ∷ [])

    -- the least outputs for some inputs
    least_outputs : (ins : List Bool) → length ins ≡ length box.ins → (outs : List Bool) × AreLeastOutputs spec imp ins outs
    least_outputs ins long =
        let found = subst (λ (boxes : List Pins). InputsHaveOutputs (ChoicesSuit spec imp) boxes []) one choices ins long in
        let count : output_pins imp.boxes ≡ length box.outs = ap output_pins one ∙ omega arith in
        elim (least_or_none laws.below (SuitsWith ins) (λ outs. SuitsWith ins outs → ⊥) (λ outs yes not. not yes) (length box.outs) (λ outs len. laws.suit spec imp (record { ins = ins; outs = outs } ∷ []))) [
          | inl is ↦ let least = is.1 in (is.0, record { whole = least.long ∙ sym count; suit = least.holds; least = λ others len suit. least.least others (len ∙ count) suit })
          | inr none ↦ absurd (none found.0 found.1 found.2)
        ]

    abbrev k : ℕ
    k = length box.ins

    abbrev numbers : List ℕ
    numbers = range_with_len 0 (2 ^ k)

    all_rows : (ys : List (List Bool)) × ((j : ℕ) (r : ℕ) (d : List Bool) → slice_get numbers j ≡ Some r → AreLeastOutputs spec imp (bits_of k r) (get_or ys j d))
    all_rows = choose (λ j r outs. AreLeastOutputs spec imp (bits_of k r) outs) numbers (λ j r e. least_outputs (bits_of k r) (laws.width k r))

    at_number : (n r : ℕ) → r < n → slice_get (range_with_len 0 n) r ≡ Some r
    at_number n r lt = by 0 n r lt ∙ ap Some (omega arith)
      where
        by : (a n r : ℕ) → r < n → slice_get (range_with_len a n) r ≡ Some (a + r)
        by a zero r lt = absurd (omega (arith, lt))
        by a (suc n) zero lt = ap Some (omega arith)
        by a (suc n) (suc r) lt = by (a + 1) n r (omega (arith, lt)) ∙ ap Some (omega arith)

    abbrev rows : List (List Bool)
    rows = map (λ r. get_or all_rows.0 r []) numbers

    row_is : (r : ℕ) (d : List Bool) → r < 2 ^ k → get_or rows r d ≡ get_or all_rows.0 r []
    row_is r d lt = get_or-map-range_with_len (λ r. get_or all_rows.0 r []) 0 (2 ^ k) r r d lt (omega arith)

    shape : HasShape k (length box.outs) rows
    shape = record {
      count = length-map-range_with_len (λ r. get_or all_rows.0 r []) 0 (2 ^ k);
      widths = λ r d lt.
          let count = length-map-range_with_len (λ r. get_or all_rows.0 r []) 0 (2 ^ k) in
          let small : r < 2 ^ k = omega (arith, lt, count) in
          let least = all_rows.1 r r [] (at_number (2 ^ k) r small) in
          let pins : output_pins imp.boxes ≡ length box.outs = ap output_pins one ∙ omega arith in
          ap length (row_is r d small) ∙ least.whole ∙ pins;
    }

    one_table : (tables : List TableBits) × (length tables ≤ 1) × AreLeastTables spec imp tables
    one_table =
        let t = laws.tables k (length box.outs) rows shape in
        let table = t.0 in
        let least : (ins : List Bool) → length ins ≡ k → AreLeastOutputs spec imp ins (row_of table (number_of ins)) = λ ins long. (
        let power : 2 ^ length ins ≡ 2 ^ k = ap (λ n. 2 ^ n) long in
        let small : number_of ins < 2 ^ k = omega (arith, laws.below ins, power) in
        let is : row_of table (number_of ins) ≡ get_or all_rows.0 (number_of ins) [] =
        sym (laws.chosen table ins (long ∙ sym t.1)) ∙ ap (λ (all : List (List Bool)). get_or all (number_of ins) []) t.4 ∙ row_is (number_of ins) [] small in
        let bits : bits_of k (number_of ins) ≡ ins = ap (λ n. bits_of n (number_of ins)) (sym long) ∙ laws.spelled ins in
        subst (AreLeastOutputs spec imp ins) (sym is) (subst (λ x. AreLeastOutputs spec imp x (get_or all_rows.0 (number_of ins) [])) bits (all_rows.1 (number_of ins) (number_of ins) [] (at_number (2 ^ k) (number_of ins) small)))) in
        (table ∷ [], omega arith, least_one laws.quantifiers laws.functions laws.points spec imp box one laws.swap kept table t.1 t.2 t.3 least)

  least_tables : (boxes : List Pins) → imp.boxes ≡ boxes → length boxes ≤ 1 → (tables : List TableBits) × (length tables ≤ 1) × AreLeastTables spec imp tables
  least_tables [] is few = ([], omega arith, least_none laws.swap spec imp kept is choices)
  least_tables (box ∷ []) is few = one_table box is
  least_tables (box ∷ next ∷ boxes) is few = absurd (omega (arith, few))

  finishable_or_not : IsFinishable imp ⊎ (IsFinishable imp → ⊥)
  finishable_or_not = elim (cases_lt 1 (length imp.boxes)) [
    | inl many ↦ inr (λ f. omega (arith, many, f.one_box))
    | inr few ↦ elim (cases_lt (2 ^ 24) (table_bits imp.boxes)) [
      | inl large ↦ inr (λ f. (let small = f.small in omega (arith, large, small)))
      | inr small ↦ inl (record { one_box = few; small = small })
    ]
  ]

  chosen_answer : (a : InputAnswer) × IsAnswer spec imp a
  chosen_answer = elim finishable_or_not [
    | inr not ↦ (Clear, (choices, not))
    | inl finishable ↦ let t = least_tables imp.boxes refl finishable.one_box in (Repair (vec_of t.0 (omega (arith, t.1))), (finishable, t.2))
  ]

pub answers_exist : LawsBelow → AnswersExist
answers_exist laws spec imp kept = elim (laws.choices spec imp) [
  | inl none ↦ (Error, none)
  | inr some ↦ chosen_answer laws spec imp kept some
]
