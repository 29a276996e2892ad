-- Rows of nested boxes of one pair are rows of another that is alike.
use Rattle.std.proofs.Common.{ℕ, ◌+◌, Bool, false, List, [], ◌∷◌, ◌++◌, drop, replicate, ap, sym, ◌∙◌, arith}
use Rattle.bb_bits.specs.Numbers.{number_of}
use Rattle.bb_bits.specs.Tables.{TableBits, row_of}
use Rattle.bb_net.specs.Conditions.{PinBits, ChoicesSuit}
use Rattle.bb_net.specs.Netlists.{Netlist}
use Rattle.bb_net.specs.Values.{table_at}
use Rattle.bb_nest.specs.Rows.{AreNestedTables, AreOutputsOf, IsLeast, AreZeros, IsRow, Suffice}
use Rattle.bb_checks.proofs.IsomorphicBoxes.{box_count_isomorphic, last_boxes_isomorphic, pins_at_isomorphic}
use Rattle.bb_checks.proofs.IsomorphicConditions.{suit_isomorphic, wins_isomorphic}
use Rattle.bb_checks.proofs.IsomorphicFunctions.{ShareAll}
use Rattle.bb_checks.proofs.IsomorphicPins.{SharePins, earlier_isomorphic}
use Rattle.bb_checks.proofs.IsomorphicWitnesses.{completion_isomorphic}

suffice_isomorphic : (spec imp other_spec other_imp : Netlist) → ShareAll spec imp other_spec other_imp → (b : ℕ) (earlier : List PinBits) (ins outs : List Bool)
    → Suffice spec imp b earlier ins outs → Suffice other_spec other_imp b earlier ins outs
suffice_isomorphic spec imp other_spec other_imp share b earlier ins outs wins =
    wins_isomorphic (ChoicesSuit spec imp) (ChoicesSuit other_spec other_imp) (suit_isomorphic spec imp other_spec other_imp share) (drop (b + 1) imp.boxes) (drop (b + 1) other_imp.boxes)
    (last_boxes_isomorphic imp.boxes other_imp.boxes share.imp.boxes (b + 1)) (earlier ++ record { ins = ins; outs = outs } ∷ []) wins

module _ (spec imp other_spec other_imp : Netlist) (to : ShareAll spec imp other_spec other_imp) (from : ShareAll other_spec other_imp spec imp) where
  outputs_back : (b : ℕ) (outs : List Bool) → AreOutputsOf other_imp b outs → AreOutputsOf imp b outs
  outputs_back b outs long = long ∙ sym (pins_at_isomorphic imp.boxes other_imp.boxes to.imp.boxes b).1

  row_isomorphic : (b : ℕ) (earlier : List PinBits) (ins outs : List Bool) → IsRow spec imp b earlier ins outs → IsRow other_spec other_imp b earlier ins outs
  row_isomorphic b earlier ins outs (IsLeast long suffice least) = IsLeast
      (long ∙ (pins_at_isomorphic imp.boxes other_imp.boxes to.imp.boxes b).1)
      (suffice_isomorphic spec imp other_spec other_imp to b earlier ins outs suffice)
      (λ others whole more. least others (outputs_back b others whole) (suffice_isomorphic other_spec other_imp spec imp from b earlier ins others more))
  row_isomorphic b earlier ins outs (AreZeros none zeros) = AreZeros
      (λ others whole more. none others (outputs_back b others whole) (suffice_isomorphic other_spec other_imp spec imp from b earlier ins others more))
      (zeros ∙ ap (λ n. replicate n false) (pins_at_isomorphic imp.boxes other_imp.boxes to.imp.boxes b).1)

  pub nested_tables_isomorphic : SharePins imp other_imp → (tables : List TableBits) → AreNestedTables spec imp tables → AreNestedTables other_spec other_imp tables
  nested_tables_isomorphic pins tables h = record {
    completion = completion_isomorphic spec imp other_spec other_imp to tables h.completion;
    rows = λ b l ins long.
        let many = to.imp.boxes in
        let same = (pins_at_isomorphic imp.boxes other_imp.boxes many b).0 in
        let row = h.rows b (omega (arith, l, box_count_isomorphic imp.boxes other_imp.boxes many)) ins (long ∙ sym same) in
        record {
          earlier = row.earlier;
          seen = earlier_isomorphic imp other_imp to.imp.inputs many pins b same ins row.earlier row.seen;
          row = row_isomorphic b row.earlier ins (row_of (table_at tables b) (number_of ins)) row.row;
        };
  }
