-- How an unrolled specification is built, cell by cell.
use Rattle.std.specs.Prelude.{ℕ, ◌+◌, length, take}
use Rattle.bb_subst.specs.Embeddings.{renumbered}
use Rattle.bb_net.specs.declared.cell.Cell.{Cell}
use Rattle.bb_net.specs.declared.cell.Cell.TheVariants.{Input, And}
use Rattle.bb_net.specs.Flats.{FlatNet}
use Rattle.bb_net.specs.Netlists.{Netlist}
use Rattle.bb_unroll.specs.declared.places.Frame.{Frame}
use Rattle.bb_unroll.specs.declared.places.Frame.TheVariants.{Present, Next}
use Rattle.bb_unroll.specs.Unrolled.{first_state, next_place, present_place, unrolled, unrolled_cells, unrolled_inputs}

-- the cells before a place
abbrev pub unrolled_before : FlatNet → ℕ → Netlist
unrolled_before f n = record (unrolled f) { cells = take n (unrolled_cells f) }

-- where a cell of the specification stands in a frame, and where the gates begin there
abbrev pub place_in : FlatNet → Frame → ℕ → ℕ
place_in f Present k = present_place f k
place_in f Next k = next_place f k

abbrev pub gates_begin : FlatNet → Frame → ℕ
gates_begin f Present = unrolled_inputs f + 2
gates_begin f Next = first_state f + length f.regs

-- a gate there; should an input stand among the gates, it is the input of that frame
abbrev pub input_in : FlatNet → Frame → ℕ → Cell
input_in f Present i = Input i
input_in f Next i = And (next_place f (i + 2)) (next_place f (i + 2))

abbrev pub gate_in : FlatNet → Frame → Cell → Cell
gate_in f frame (Input i) = input_in f frame i
gate_in f frame cell = renumbered (place_in f frame) cell
