-- The tables that the code fills are nested tables.
use Rattle.std.proofs.Common.{◌≡◌, ◌<◌, ◌^◌, ◌*◌, ℕ, Bool, List, [], length, map, take, drop, slice_index, All, sym, ap, ◌∙◌, subst, subst₂, inl, inr, arith}
use Rattle.std.proofs.lemmas.Bool.{cases_lt}
use Rattle.std.proofs.lemmas.List.{length-map, nil_from_length}
use Rattle.bb_bits.specs.Numbers.{number_of}
use Rattle.bb_bits.specs.Tables.{TableBits, IsTable, row_of}
use Rattle.bb_bits.specs.Truth.{Truth}
use Rattle.bb_net.specs.Conditions.{SomeChoicesSuit}
use Rattle.bb_net.specs.Netlists.{Netlist, Pins, IsNetlist, box_at}
use Rattle.bb_net.specs.Pairs.{pin_count}
use Rattle.bb_net.specs.Values.{bit_of, table_at, FitBoxes}
use Rattle.bb_sym.specs.Inside.Made.{Represents, RepresentAll, ref_at}
use Rattle.bb_sym.specs.Laws.{FunctionLaws, PointLaws}
use Rattle.bb_sym.specs.Plain.{table, cell_bit}
use Rattle.bb_uniq.specs.declared.store.Ref.{Ref}
use Rattle.bb_uniq.specs.Inside.Meaning.{truth_of}
use Rattle.bb_uniq.specs.Inside.Nodes.{NodeStore, IsRef}
use Rattle.bb_input.specs.InputFunctions.{pins_and_inputs, point_pins, boxes_first, pin_places, stage}
use Rattle.bb_input.specs.Laws.{StagesSay}
use Rattle.bb_nest.specs.Inside.LawsBelow.{LawsBelow}
use Rattle.bb_nest.specs.Inside.StageRows.{IsStageRow, IsStageTable, prefix_of}
use Rattle.bb_nest.specs.Rows.{IsRow, AreNestedTables}
use Rattle.bb_nest.proofs.Equivalent.{AreNestedRows, row_count, agrees}
use Rattle.bb_nest.proofs.Filling.{row_after}
use Rattle.bb_nest.proofs.Refs.{count_others, seen_zip}
use Rattle.bb_nest.proofs.SeenPins.{seen_boxes}
use Rattle.bb_nest.proofs.StageRows.{row_of_stage}

module _ (laws : LawsBelow) (functions : FunctionLaws) (points : PointLaws) (say : StagesSay) (spec imp : Netlist) (kept : IsNetlist imp)
    (s : NodeStore) (vars : s.vars ≡ pins_and_inputs imp) (stages refs : List Ref) (there : (b : ℕ) → b < length imp.boxes → Represents s (stage spec imp b) (ref_at stages b))
    (count : length refs ≡ pin_count imp.boxes) (occur : RepresentAll s (λ q. table (pins_and_inputs imp) (cell_bit (boxes_first imp) imp (slice_index (pin_places imp.boxes) q))) refs)
    (canonical : (r q : ℕ) → IsRef s r → IsRef s q → truth_of s r ≡ truth_of s q → r ≡ q)
    (tables : List TableBits) (many : length tables ≡ length imp.boxes) (all : (b : ℕ) → b < length imp.boxes → IsStageTable s.vars (truth_of s (ref_at stages b).0) refs imp.boxes b (table_at tables b)) where
  nested_row : AreNestedRows spec imp tables
  nested_row b l ins long = record {
    earlier = point_pins before seen;
    seen = seen_boxes imp box ins before seen (seen_zip functions imp s refs count occur canonical b l t.readers t.read ins);
    row = row;
  }
    where
      before : List Pins
      before = take b imp.boxes

      box : Pins
      box = box_at imp.boxes b

      t : IsStageTable s.vars (truth_of s (ref_at stages b).0) refs imp.boxes b (table_at tables b)
      t = all b l

      bits : TableBits
      bits = table_at tables b

      seen : List Bool
      seen = map (bit_of ins) t.readers

      wide : length seen ≡ pin_count before
      wide = length-map t.readers (bit_of ins) ∙ (t.read.count ∙ count_others functions imp s refs count occur canonical b l)

      outs : List Bool
      outs = row_of bits (number_of ins)

      row : IsRow spec imp b (point_pins before seen) ins outs
      row = elim (cases_lt 0 bits.outputs) [
        | inl some ↦
            let power : 2 ^ length ins ≡ 2 ^ bits.inputs = ap (λ j. 2 ^ j) (long ∙ sym t.inputs) in
            let stage_row = t.rows some ins (long ∙ sym t.inputs) (let h = laws.below ins in omega (arith, h, power)) in
            row_of_stage say points spec imp b l seen ins wide long outs
            (subst (λ m. IsStageRow (pins_and_inputs imp) (stage spec imp b) m (prefix_of t.readers ins) outs) t.outputs
            (subst₂ (λ n (f : Truth). IsStageRow n f bits.outputs (prefix_of t.readers ins) outs) vars (there b l).table stage_row))
        | inr none ↦
            let found = row_after laws spec imp b (point_pins before seen) ins in
            let zero : bits.outputs ≡ 0 = omega (arith, none) in
            let empty : outs ≡ [] = ap (λ m. take m (drop (number_of ins * bits.outputs) bits.rows)) zero in
            let other : found.0 ≡ [] = nil_from_length found.0 (row_count spec imp b (point_pins before seen) ins found.0 found.1 ∙ (sym t.outputs ∙ zero)) in
            subst (IsRow spec imp b (point_pins before seen) ins) (other ∙ sym empty) found.1
      ]

  pub reported_tables : All IsTable tables → SomeChoicesSuit spec imp → AreNestedTables spec imp tables
  reported_tables whole choices =
      let fit : FitBoxes tables imp.boxes = record {
        count = many;
        inputs = λ b l. (all b l).inputs;
        outputs = λ b l. (all b l).outputs;
        whole = λ b l. (whole b (record { inputs = 0; outputs = 0; rows = [] }) (omega (arith, l, many))).whole;
      } in
      record { completion = record { fit = fit; agree = agrees laws.exists laws.swap spec imp kept tables fit nested_row choices }; rows = nested_row }
