-- The functions of the check by choices of one pair are among those of another that is alike.
use Rattle.std.proofs.Common.{◌≡◌, ℕ, ◌+◌, ◌<◌, ◌&&◌, ◌||◌, not, Bool, List, [], ◌∷◌, ◌++◌, length, map, drop, ap, ap₂, ◌∙◌, subst, arith}
use Rattle.std.specs.Prelude.{slice_index}
use Rattle.std.specs.List.{flat_map}
use Rattle.bb_bits.specs.Bits.{xor}
use Rattle.bb_bits.specs.Truth.{Truth, quantified_block}
use Rattle.bb_net.specs.Conditions.{PinBits, all_outs}
use Rattle.bb_net.specs.Netlists.{Netlist}
use Rattle.bb_net.specs.Pairs.{pin_count}
use Rattle.bb_net.specs.Values.{bit_of}
use Rattle.bb_sym.specs.Plain.{Function, table, tables, output_numbers, one_of, first_of, plain_functions_at, block_functions}
use Rattle.bb_input.specs.InputFunctions.{pins_and_inputs, boxes_first, in_places, in_pins, is_missed, is_wrong_output, has_wrong, leads, refutes, refuted, boxes_functions, wrong_functions, missed_functions, quantified_functions, input_functions}
use Rattle.bb_checks.specs.Inside.IsomorphismLaws.{FunctionsFixTables}
use Rattle.bb_checks.proofs.IsomorphicBoxes.{boxes_functions_isomorphic, in_places_isomorphic, pin_bits_isomorphic, pin_count_isomorphic}
use Rattle.bb_checks.proofs.IsomorphicFunctions.{AreReadIsomorphic, ShareAll, cell_bit_isomorphic, plain_among, wrong_tables_among, first_tables_among, some_wrong_isomorphic}
use Rattle.bb_checks.proofs.IsomorphicTables.{AreAmong, among_same, among_append, among_tables, one_of_same, table_same}

module _ (fix : FunctionsFixTables) (spec imp other_spec other_imp : Netlist) (share : ShareAll spec imp other_spec other_imp) where
  pins_isomorphic : pin_count imp.boxes ≡ pin_count other_imp.boxes
  pins_isomorphic = pin_count_isomorphic imp.boxes other_imp.boxes share.imp.boxes

  count_isomorphic : pins_and_inputs imp ≡ pins_and_inputs other_imp
  count_isomorphic = ap₂ (λ (n m : ℕ). n + m) pins_isomorphic share.imp.inputs

  read_isomorphic : AreReadIsomorphic (boxes_first imp) (boxes_first other_imp)
  read_isomorphic = record {
    inputs = λ x. ap (λ (n : ℕ). drop n x) pins_isomorphic;
    pins = λ x. ap all_outs (pin_bits_isomorphic imp.boxes other_imp.boxes share.imp.boxes x);
  }

  in_count_isomorphic : length (in_places imp.boxes) ≡ length (in_places other_imp.boxes)
  in_count_isomorphic = in_places_isomorphic imp.boxes other_imp.boxes share.imp.boxes

  missed_isomorphic : (i : ℕ) → i < length (in_places imp.boxes) → (x : List Bool) → is_missed imp i x ≡ is_missed other_imp i x
  missed_isomorphic i l x =
      ap₂ xor
      (ap (λ (chosen : List PinBits). bit_of (flat_map (λ bits. bits.ins) chosen) i) (pin_bits_isomorphic imp.boxes other_imp.boxes share.imp.boxes x))
      (cell_bit_isomorphic (boxes_first imp) (boxes_first other_imp) read_isomorphic imp other_imp (slice_index (in_places imp.boxes) i) (slice_index (in_places other_imp.boxes) i)
      (λ y z. share.imp.in_bits y z i l) x)

  wrong_somewhere_isomorphic : (x : List Bool) → has_wrong spec imp x ≡ has_wrong other_spec other_imp x
  wrong_somewhere_isomorphic x = some_wrong_isomorphic (boxes_first imp) (boxes_first other_imp) read_isomorphic spec imp other_spec other_imp share x

  leads_isomorphic : (x : List Bool) → leads imp x ≡ leads other_imp x
  leads_isomorphic x = ap not (one_of_same (is_missed imp) (is_missed other_imp) (length (in_places imp.boxes)) x (λ i l. missed_isomorphic i l x)
      ∙ ap (λ (n : ℕ). one_of (is_missed other_imp) n x) in_count_isomorphic)

  refutes_isomorphic : (x : List Bool) → refutes spec imp x ≡ refutes other_spec other_imp x
  refutes_isomorphic x = ap₂ (λ (b c : Bool). b && c) (wrong_somewhere_isomorphic x) (leads_isomorphic x)

  table_isomorphic : (f g : Function) → ((x : List Bool) → f x ≡ g x) → table (pins_and_inputs imp) f ≡ table (pins_and_inputs other_imp) g
  table_isomorphic f g same = table_same fix (pins_and_inputs imp) (pins_and_inputs other_imp) count_isomorphic f g same

  -- tables of as many variables
  with_count : (fs gs : List Function) → AreAmong (tables (pins_and_inputs imp) fs) (tables (pins_and_inputs imp) gs) → AreAmong (tables (pins_and_inputs imp) fs) (tables (pins_and_inputs other_imp) gs)
  with_count fs gs h = subst (λ n. AreAmong (tables (pins_and_inputs imp) fs) (tables n gs)) count_isomorphic h

  wrong_among : AreAmong (wrong_functions spec imp) (wrong_functions other_spec other_imp)
  wrong_among =
      among_append _ _ _ _
      (with_count (map (is_wrong_output spec imp) (output_numbers imp)) (map (is_wrong_output other_spec other_imp) (output_numbers other_imp))
      (wrong_tables_among (boxes_first imp) (boxes_first other_imp) read_isomorphic spec imp other_spec other_imp share fix (pins_and_inputs imp)))
      (with_count (map (first_of (is_wrong_output spec imp)) (output_numbers imp)) (map (first_of (is_wrong_output other_spec other_imp)) (output_numbers other_imp))
      (first_tables_among (boxes_first imp) (boxes_first other_imp) read_isomorphic spec imp other_spec other_imp share fix (pins_and_inputs imp)))

  missed_among : AreAmong (missed_functions imp) (missed_functions other_imp)
  missed_among =
      let n = length (in_places imp.boxes) in
      let m = length (in_places other_imp.boxes) in
      among_append _ _ _ _
      (with_count (map (is_missed imp) (in_pins imp)) (map (is_missed other_imp) (in_pins other_imp))
      (among_tables fix (pins_and_inputs imp) (is_missed imp) (is_missed other_imp) n m (λ i l. (i, omega (arith, l, in_count_isomorphic), missed_isomorphic i l))))
      (with_count (map (first_of (is_missed imp)) (in_pins imp)) (map (first_of (is_missed other_imp)) (in_pins other_imp))
      (among_tables fix (pins_and_inputs imp) (first_of (is_missed imp)) (first_of (is_missed other_imp)) n m
      (λ i l. (i, omega (arith, l, in_count_isomorphic), λ x. one_of_same (is_missed imp) (is_missed other_imp) (i + 1) x (λ j h. missed_isomorphic j (omega (arith, h, l)) x)))))

  refutes_table_isomorphic : table (pins_and_inputs imp) (refutes spec imp) ≡ table (pins_and_inputs other_imp) (refutes other_spec other_imp)
  refutes_table_isomorphic = table_isomorphic (refutes spec imp) (refutes other_spec other_imp) refutes_isomorphic

  refuted_isomorphic : refuted spec imp ≡ refuted other_spec other_imp
  refuted_isomorphic =
      ap₂ (λ (n m : ℕ). quantified_block ◌||◌ n m (table (pins_and_inputs imp) (refutes spec imp))) pins_isomorphic share.imp.inputs
      ∙ ap (λ (t : Truth). quantified_block ◌||◌ (pin_count other_imp.boxes) other_imp.inputs t) refutes_table_isomorphic

  quantified_isomorphic : quantified_functions spec imp ≡ quantified_functions other_spec other_imp
  quantified_isomorphic =
      ap₂ (λ (ts us : List Truth). ts ++ us)
      (ap₂ (λ (n m : ℕ). block_functions ◌||◌ n m (table (pins_and_inputs imp) (refutes spec imp))) pins_isomorphic share.imp.inputs
      ∙ ap (λ (t : Truth). block_functions ◌||◌ (pin_count other_imp.boxes) other_imp.inputs t) refutes_table_isomorphic)
      (boxes_functions_isomorphic imp.boxes other_imp.boxes share.imp.boxes 0 (refuted spec imp) ∙ ap (λ (t : Truth). boxes_functions 0 other_imp.boxes t) refuted_isomorphic)

  both_isomorphic : tables (pins_and_inputs imp) (leads imp ∷ refutes spec imp ∷ []) ≡ tables (pins_and_inputs other_imp) (leads other_imp ∷ refutes other_spec other_imp ∷ [])
  both_isomorphic = ap₂ (λ (t u : Truth). t ∷ u ∷ []) (table_isomorphic (leads imp) (leads other_imp) leads_isomorphic) refutes_table_isomorphic

  pub input_among : AreAmong (input_functions spec imp) (input_functions other_spec other_imp)
  input_among =
      among_append (plain_functions_at (pins_and_inputs imp) (boxes_first imp) spec imp) (plain_functions_at (pins_and_inputs other_imp) (boxes_first other_imp) other_spec other_imp) _ _
      (plain_among (boxes_first imp) (boxes_first other_imp) read_isomorphic spec imp other_spec other_imp share fix (pins_and_inputs imp) (pins_and_inputs other_imp) count_isomorphic)
      (among_append (wrong_functions spec imp) (wrong_functions other_spec other_imp) _ _ wrong_among
      (among_append (missed_functions imp) (missed_functions other_imp) _ _ missed_among
      (among_append (tables (pins_and_inputs imp) (leads imp ∷ refutes spec imp ∷ [])) (tables (pins_and_inputs other_imp) (leads other_imp ∷ refutes other_spec other_imp ∷ [])) _ _
      (among_same _ _ both_isomorphic) (among_same (quantified_functions spec imp) (quantified_functions other_spec other_imp) quantified_isomorphic))))
