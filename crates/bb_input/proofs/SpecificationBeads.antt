-- the beads of the specification's cells among those of the check
use Rattle.std.proofs.Common.{◌≡◌, List, [], ◌∷◌, ◌++◌, length, take, drop, sym, take_all, length-drop, arith}
use Rattle.std.proofs.lemmas.List.Elements.{All-weaker, Contains-append_left}
use Rattle.bb_bits.specs.Truth.{Truth, IsBeadOfAny}
use Rattle.bb_net.specs.Netlists.{Netlist}
use Rattle.bb_net.specs.Pairs.{pin_count}
use Rattle.bb_sym.specs.Laws.{CellsHoldSpecification, HoldsSpecification, ReadsInputs}
use Rattle.bb_input.specs.InputFunctions.{pins_and_inputs, boxes_first, input_functions, wrong_functions, missed_functions, leads, refutes, quantified_functions}
use Rattle.bb_input.specs.Inside.Prefixes.{cell_functions}
use Rattle.bb_sym.specs.Plain.{tables}

-- the inputs follow the pins of all boxes
inputs_read : (imp : Netlist) → ReadsInputs (pins_and_inputs imp) (pin_count imp.boxes) imp.inputs (boxes_first imp)
inputs_read imp = record {
  within = omega arith;
  read = λ p long.
      let k = pin_count imp.boxes in
      let rest = length-drop k p in
      sym (take_all imp.inputs (drop k p) (omega (arith, long, rest)));
}

pub input_holds : CellsHoldSpecification → HoldsSpecification input_functions
input_holds cells spec imp k h =
    let plain = cell_functions spec imp in
    let rest = wrong_functions spec imp ++ (missed_functions imp ++ (tables (pins_and_inputs imp) (leads imp ∷ refutes spec imp ∷ []) ++ quantified_functions spec imp)) in
    let more = cells spec imp k (pins_and_inputs imp) (pin_count imp.boxes) (boxes_first imp) (inputs_read imp) h in
    (more.0, more.1, All-weaker (IsBeadOfAny plain) (IsBeadOfAny (plain ++ rest)) (λ b own. (own.0, Contains-append_left plain rest own.0 own.1, own.2)) more.0 more.2, more.3)
