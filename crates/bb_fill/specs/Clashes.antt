-- When no filled text is made because of its names. In one module a name means one thing (IEEE 1364-2005, 4.11), but
-- the inputs, the registers and the outputs of a netlist are named by three lists. An input's text must be no
-- register's and no output's. An output may have the text of a register where it is that register; else their texts
-- must differ too. The first text that breaks this is reported, inputs before outputs.
use Rattle.std.specs.Prelude.{◌≡◌, ◌≢◌, ◌⊎◌, ℕ, ◌+◌, ◌<◌, List, [], length, All, Contains, slice_index}
use Rattle.std.specs.List.{range_with_len, slice_index_or}
use Rattle.bb_bits.specs.Closures.{IsFirst}
use Rattle.bb_net.specs.declared.cell.Cell.{Cell}
use Rattle.bb_net.specs.declared.cell.Cell.TheVariants.{Input}
use Rattle.bb_net.specs.Netlists.{cell_at}
use Rattle.bb_net.specs.Flats.{FlatNet}
use Rattle.bb_net.specs.CutPoints.{state_texts}
use Rattle.bb_fill.specs.Filled.{output_text}

-- the cell of an output of the top
abbrev pub output_cell : FlatNet → ℕ → Cell
output_cell f o = cell_at f.net.cells (slice_index f.net.outs o)

-- the text of a register, and the input of the netlist that is its present state
abbrev pub register_text : FlatNet → ℕ → List ℕ
register_text f r = slice_index_or (state_texts f) r []

abbrev pub state_cell : FlatNet → ℕ → Cell
state_cell f r = Input (length f.ins + r)

-- an input has the text of a register or of an output
abbrev pub IsInputClash : FlatNet → List ℕ → Type 0
IsInputClash f text = Contains (state_texts f) text ⊎ Contains f.outs text

-- an output has the text of a register that it is not
abbrev pub IsOutputClash : FlatNet → ℕ → Type 0
IsOutputClash f o = (r : ℕ) × (r < length f.regs) × (output_text f o ≡ register_text f r) × (output_cell f o ≢ state_cell f r)

-- the numbers of the outputs of the top
abbrev pub output_numbers : FlatNet → List ℕ
output_numbers f = range_with_len 0 (length f.outs)

-- no input clashes
abbrev pub AreInputsApart : FlatNet → Type 0
AreInputsApart f = All (λ text. (Contains (state_texts f) text → ⊥) × (Contains f.outs text → ⊥)) f.ins

-- an output with the text of a register is this register
abbrev pub IsItsRegister : FlatNet → ℕ → Type 0
IsItsRegister f o = (r : ℕ) → r < length f.regs → output_text f o ≡ register_text f r → output_cell f o ≡ state_cell f r

-- no name clashes
pub record AreNamesApart (f : FlatNet) : Type 0 where
  pub inputs : AreInputsApart f
  pub outputs : All (IsItsRegister f) (output_numbers f)

-- a name clashes, and this one is reported
pub data IsClash (f : FlatNet) (name : List ℕ) : Type 0 where
  InputClashes : IsFirst (IsInputClash f) f.ins name → IsClash f name
  OutputClashes : (o : ℕ) → AreInputsApart f → IsFirst (IsOutputClash f) (output_numbers f) o → name ≡ output_text f o → IsClash f name
