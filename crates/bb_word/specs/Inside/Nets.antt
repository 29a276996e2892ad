-- Netlists of one operator. The inputs are the bits of the operands, and the outputs those of the result, the most significant bit
-- of each word first.
use Rattle.std.specs.Prelude.{◌≡◌, ℕ, ◌+◌, List, [], map, drop, reverse}
use Rattle.std.specs.List.{range_with_len}
use Rattle.bb_net.specs.Netlists.{Netlist}
use Rattle.bb_word.specs.Gates.{Made}
use Rattle.bb_word.specs.Laws.Formulas.{Formula, Input, cell_formula, formula_at}

-- count inputs from one on, as formulas
abbrev pub inputs_from : ℕ → ℕ → List Formula
inputs_from first count = map Input (range_with_len first count)

-- the netlist has this number of inputs and no boxes, after the constants and the inputs its cells are those that a
-- circuit makes, in their order, and its outputs are the bits that it gives; that a netlist begins with constants and
-- inputs is what every one keeps
pub record IsCircuit (net : Netlist) (width : ℕ) (circuit : Made Formula) : Type 0 where
  pub inputs : net.inputs ≡ width
  pub boxes : net.boxes ≡ []
  pub cells : map (cell_formula (formula_at net.cells)) (drop (width + 2) net.cells) ≡ circuit.cells
  pub outs : map (formula_at net.cells) net.outs ≡ reverse circuit.bits
