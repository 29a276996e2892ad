-- points that begin with the inputs
use Rattle.std.proofs.Common.{◌≡◌, ◌<◌, ◌≤◌, ℕ, ◌+◌, List, length, take, ap, ◌∙◌, arith, get_or-take, get_or-drop}
use Rattle.std.specs.Prelude.{slice_index_or}
use Rattle.bb_net.specs.Netlists.{Netlist}
use Rattle.bb_net.specs.Values.{bit_of, output_pins}
use Rattle.bb_sym.specs.Functions.{inputs_first, inputs_and_pins}
use Rattle.bb_sym.specs.Plain.{AreVariables, IsReadSo}
use Rattle.bb_sym.proofs.CellTables.{pin_within}

module _ (imp : Netlist) (n : ℕ) (starts : List ℕ) (few : n ≤ 2048) (v : n ≡ inputs_and_pins imp) (count : length starts ≡ length imp.boxes) (start : (b : ℕ) → b < length imp.boxes → slice_index_or starts b 0 ≡ imp.inputs + output_pins (take b imp.boxes)) where
  pub order_variables : AreVariables n 0 starts imp
  order_variables = record {
    few = few;
    inputs = omega (arith, v);
    pins = λ b pin l. let within = pin_within imp.boxes b pin l in (omega (arith, within.0, count), (let e = start b within.0 in omega (arith, e, within.1, v)));
  }

  pub order_read : IsReadSo n 0 starts imp (inputs_first imp)
  order_read = record {
    inputs = λ i l p e. get_or-take imp.inputs p i _ l ∙ ap (bit_of p) (let h : i ≡ 0 + i = omega arith in h);
    pins = λ b pin l p e.
        let within = pin_within imp.boxes b pin l in
        let k = output_pins (take b imp.boxes) + pin in
        get_or-drop imp.inputs p k _ ∙ ap (bit_of p) (let h : imp.inputs + k ≡ slice_index_or starts b 0 + pin = omega (arith, start b within.0) in h);
  }
