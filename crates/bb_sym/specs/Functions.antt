-- The Boolean functions that a check by diagrams makes, as truth tables; a check holds exactly their beads (Knuth, The
-- Art of Computer Programming, volume 4A, 7.1.4). Each variable is one of them. Where functions are folded by an
-- operation, the first is joined with the second, that with the third, and so on, and each result is one of the list.
-- In a report they matter for `nodes` only.
use Rattle.std.specs.Prelude.{ℕ, ◌+◌, Bool, false, not, ◌&&◌, ◌||◌, List, ◌∷◌, [], ◌++◌, length, map, take, drop, slice_index, Option, Some, None}
use Rattle.std.specs.List.{flat_map}
use Rattle.bb_bits.specs.Truth.{Truth, constant, variable, complement_of_table, joined_tables, quantified_block}
use Rattle.bb_net.specs.declared.cell.Cell.{Cell}
use Rattle.bb_net.specs.declared.cell.Cell.TheVariants.{Const, Input, Not, And, Or, Xor, Mux, BoxOut}
use Rattle.bb_net.specs.Netlists.{Netlist, cell_at}
use Rattle.bb_net.specs.Values.{bit_of, flat, output_pins}
use Rattle.bb_net.specs.Ternary.{tern, tern_of}
use Rattle.bb_sym.specs.Plain.{Function, Reading, table, tables, variables, cell_numbers, output_numbers, is_wrong_at, one_of, first_of, plain_functions_at, block_functions}

-- Where boxes are unknown, the variables are the inputs.

-- the bit of a cell of the specification
abbrev pub spec_bit : Netlist → ℕ → Function
spec_bit spec place = λ x. bit_of (flat spec x []) place

-- only the cells of the specification, over the inputs of the implementation, which are its own
abbrev pub specification_functions : Netlist → Netlist → List Truth
specification_functions spec imp = tables imp.inputs (map (spec_bit spec) (cell_numbers spec))

abbrev pub is_one : Option Bool → Bool
is_one None = false
is_one (Some b) = b

abbrev pub is_zero : Option Bool → Bool
is_zero None = false
is_zero (Some b) = not b

-- whether the value of a cell of the implementation is known to be 1, and whether it is known to be 0
abbrev pub known_one : Netlist → ℕ → Function
known_one imp place = λ x. is_one (tern_of (tern imp x) place)

abbrev pub known_zero : Netlist → ℕ → Function
known_zero imp place = λ x. is_zero (tern_of (tern imp x) place)

-- the tables that are joined at each point
abbrev pub both : Truth → Truth → Truth
both t u = joined_tables ◌&&◌ t u

abbrev pub either : Truth → Truth → Truth
either t u = joined_tables ◌||◌ t u

-- "a and b, or c and e", and that of which it is made
abbrev pub sum_table : Truth → Truth → Truth → Truth → Truth
sum_table a b c e = either (both a b) (both c e)

abbrev pub sum_tables : Truth → Truth → Truth → Truth → List Truth
sum_tables a b c e = both a b ∷ both c e ∷ sum_table a b c e ∷ []

-- what is chosen of t where c holds and of e where d holds, or what both have, and that of which it is made
abbrev pub choice_table : Truth → Truth → Truth → Truth → Truth
choice_table c d t e = either (sum_table c t d e) (both t e)

abbrev pub choice_tables : Truth → Truth → Truth → Truth → List Truth
choice_tables c d t e = sum_tables c t d e ++ both t e ∷ choice_table c d t e ∷ []

-- the tables of a cell over n variables, by those of its operands: where they are known to be 1, and where to be 0
abbrev pub cell_tables : ℕ → (ℕ → Truth) → (ℕ → Truth) → Cell → List Truth
cell_tables n high low (Const b) = constant n b ∷ constant n (not b) ∷ []
cell_tables n high low (Input i) = variable n i ∷ complement_of_table (variable n i) ∷ []
cell_tables n high low (BoxOut b p) = constant n false ∷ []
cell_tables n high low (Not a) = low a ∷ high a ∷ []
cell_tables n high low (And a b) = both (high a) (high b) ∷ either (low a) (low b) ∷ []
cell_tables n high low (Or a b) = both (low a) (low b) ∷ either (high a) (high b) ∷ []
cell_tables n high low (Xor a b) = sum_tables (high a) (low b) (low a) (high b) ++ sum_tables (high a) (high b) (low a) (low b)
cell_tables n high low (Mux c t e) = choice_tables (high c) (low c) (high t) (high e) ++ choice_tables (high c) (low c) (low t) (low e)

-- where the value of a cell of the implementation is known to be 1, and where to be 0
abbrev pub high : Netlist → ℕ → Truth
high imp place = table imp.inputs (known_one imp place)

abbrev pub low : Netlist → ℕ → Truth
low imp place = table imp.inputs (known_zero imp place)

-- the bit that is wanted at an output
abbrev pub wanted : Netlist → Netlist → ℕ → Truth
wanted spec imp j = table imp.inputs (spec_bit spec (slice_index spec.outs j))

-- an output is known to be 1 where 0 is wanted, or known to be 0 where 1 is; and that of which it is made
abbrev pub mismatch : Netlist → Netlist → ℕ → Truth
mismatch spec imp j = sum_table (high imp (slice_index imp.outs j)) (complement_of_table (wanted spec imp j)) (low imp (slice_index imp.outs j)) (wanted spec imp j)

abbrev pub mismatches : Netlist → Netlist → ℕ → List Truth
mismatches spec imp j = complement_of_table (wanted spec imp j) ∷ sum_tables (high imp (slice_index imp.outs j)) (complement_of_table (wanted spec imp j)) (low imp (slice_index imp.outs j)) (wanted spec imp j)

abbrev pub known_tables : Netlist → ℕ → List Truth
known_tables imp place = cell_tables imp.inputs (high imp) (low imp) (cell_at imp.cells place)

abbrev pub symbolic_functions : Netlist → Netlist → List Truth
symbolic_functions spec imp =
    variables imp.inputs ++ (
    tables imp.inputs (map (spec_bit spec) (cell_numbers spec)) ++ (
    flat_map (known_tables imp) (cell_numbers imp) ++ flat_map (mismatches spec imp) (output_numbers imp)))

-- Where boxes may give any bits, the variables are the inputs and then the output pins of the boxes, box after box.

abbrev pub inputs_and_pins : Netlist → ℕ
inputs_and_pins imp = imp.inputs + output_pins imp.boxes

-- the inputs are the first bits of a point
abbrev pub inputs_first : Netlist → Reading
inputs_first imp = record { inputs = take imp.inputs; pins = drop imp.inputs }

-- an output is wrong
abbrev pub is_wrong : Netlist → Netlist → ℕ → Function
is_wrong spec imp j = is_wrong_at (inputs_first imp) spec imp j

-- the variables and the bits of all cells
abbrev pub plain_functions : Netlist → Netlist → List Truth
plain_functions spec imp = plain_functions_at (inputs_and_pins imp) (inputs_first imp) spec imp

-- a function with the output pins of all boxes quantified by "for all"
abbrev pub for_all_pins : Netlist → Truth → List Truth
for_all_pins imp t = block_functions ◌&&◌ imp.inputs (output_pins imp.boxes) t

-- where an output is wrong, and that for all values of the pins
abbrev pub wrong_for_all_pins : Netlist → Netlist → ℕ → List Truth
wrong_for_all_pins spec imp j = let t = table (inputs_and_pins imp) (is_wrong spec imp j) in t ∷ for_all_pins imp t

-- the last of them
abbrev pub always_wrong : Netlist → Netlist → ℕ → Truth
always_wrong spec imp j = quantified_block ◌&&◌ imp.inputs (output_pins imp.boxes) (table (inputs_and_pins imp) (is_wrong spec imp j))

abbrev pub local_functions : Netlist → Netlist → List Truth
local_functions spec imp = plain_functions spec imp ++ flat_map (wrong_for_all_pins spec imp) (output_numbers imp)

-- one of the first outputs is wrong
abbrev pub some_wrong : Netlist → Netlist → ℕ → Function
some_wrong spec imp count = one_of (is_wrong spec imp) count

-- one of those up to an output is wrong
abbrev pub first_some_wrong : Netlist → Netlist → ℕ → Function
first_some_wrong spec imp j = first_of (is_wrong spec imp) j

-- some output is wrong for all values of the pins
abbrev pub all_always_wrong : Netlist → Netlist → Truth
all_always_wrong spec imp = quantified_block ◌&&◌ imp.inputs (output_pins imp.boxes) (table (inputs_and_pins imp) (some_wrong spec imp (length imp.outs)))

abbrev pub output_functions : Netlist → Netlist → List Truth
output_functions spec imp =
    plain_functions spec imp ++ (
    tables (inputs_and_pins imp) (map (is_wrong spec imp) (output_numbers imp)) ++ (
    tables (inputs_and_pins imp) (map (first_some_wrong spec imp) (output_numbers imp))
    ++ for_all_pins imp (table (inputs_and_pins imp) (some_wrong spec imp (length imp.outs)))))
