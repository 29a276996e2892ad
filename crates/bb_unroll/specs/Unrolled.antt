-- A specification unrolled over one event (time-frame expansion, as in Biere, Cimatti, Clarke and Zhu, Symbolic model
-- checking without BDDs, 1999): its cells stand there twice, once as the event comes and once after it. The inputs are
-- those of the specification, bits of input ports first and register states after them; then, three times, a bit for
-- each bit of an input port: its bit after the event, whether it rises at the event, and whether it falls there. Where
-- both are said it rises. A register whose clock has its edge takes its next state, the others keep theirs.
use Rattle.std.specs.Prelude.{ℕ, ◌+◌, ◌-◌, ◌*◌, suc, if◌then◌else◌, nat_lt, List, [], ◌∷◌, ◌++◌, length, map, drop, slice_index}
use Rattle.std.specs.Prelude.{Option, None, Some}
use Rattle.std.specs.List.{flat_map, range_with_len}
use Rattle.bb_subst.specs.Embeddings.{renumbered}
use Rattle.bb_net.specs.declared.cell.Cell.{Cell}
use Rattle.bb_net.specs.declared.cell.Cell.TheVariants.{Input, Not, And, Mux}
use Rattle.bb_net.specs.declared.flat.Reg.{Reg}
use Rattle.bb_net.specs.Flats.{FlatNet}
use Rattle.bb_net.specs.Netlists.{Netlist, first_cells}

-- the bits of input ports
abbrev pub ports : FlatNet → ℕ
ports f = length f.ins

-- the constants and inputs, with which the specification's cells begin, and its gates after them
abbrev pub first_gate : FlatNet → ℕ
first_gate f = f.net.inputs + 2

abbrev pub gates : FlatNet → List Cell
gates f = drop (first_gate f) f.net.cells

abbrev pub unrolled_inputs : FlatNet → ℕ
unrolled_inputs f = f.net.inputs + 3 * ports f

-- the numbers of the inputs for bit i of the input ports: after the event, whether it rises, whether it falls
abbrev pub next_input : FlatNet → ℕ → ℕ
next_input f i = f.net.inputs + i

abbrev pub rise_input : FlatNet → ℕ → ℕ
rise_input f i = f.net.inputs + (ports f + i)

abbrev pub fall_input : FlatNet → ℕ → ℕ
fall_input f i = f.net.inputs + (2 * ports f + i)

-- where a cell of the specification stands as the event comes: constants and inputs at their places, gates after all
-- inputs
abbrev pub present_place : FlatNet → ℕ → ℕ
present_place f k = if nat_lt k (first_gate f) then k else unrolled_inputs f + 2 + (k - first_gate f)

-- for each bit of the input ports two cells: that it does not rise, and that it falls
abbrev pub first_edge : FlatNet → ℕ
first_edge f = unrolled_inputs f + 2 + length (gates f)

abbrev pub falls_place : FlatNet → ℕ → ℕ
falls_place f i = first_edge f + (2 * i + 1)

abbrev pub edge_cells : FlatNet → ℕ → List Cell
edge_cells f i = Not (rise_input f i + 2) ∷ And (fall_input f i + 2) (first_edge f + 2 * i) ∷ []

-- the bit of the input ports that is a clock; of none the first, where no register lacks a clock
abbrev pub clock_of : Option ℕ → ℕ
clock_of None = 0
clock_of (Some i) = i

-- the cell that says whether a register stores
abbrev pub stores_place : FlatNet → Reg → ℕ
stores_place f r = if r.falling then falls_place f (clock_of r.clock) else rise_input f (clock_of r.clock) + 2

-- the states after the event
abbrev pub first_state : FlatNet → ℕ
first_state f = first_edge f + 2 * ports f

-- that of register j is its next state where it stores, and its present one where not
abbrev pub state_cell : FlatNet → ℕ → Reg → Cell
state_cell f j r = Mux (stores_place f r) (present_place f (slice_index f.net.outs (length f.outs + j))) (ports f + j + 2)

-- those of the registers from number j on
abbrev pub state_cells : FlatNet → ℕ → List Reg → List Cell
state_cells f j [] = []
state_cells f j (r ∷ rest) = state_cell f j r ∷ state_cells f (suc j) rest

-- where a cell of the specification stands after the event
abbrev pub next_place : FlatNet → ℕ → ℕ
next_place f k =
    if nat_lt k 2 then k else (
    if nat_lt k (ports f + 2) then f.net.inputs + k else (
    if nat_lt k (first_gate f) then first_state f + (k - (ports f + 2))
    else first_state f + length f.regs + (k - first_gate f)))

-- a gate after the event; should an input stand among the gates, it is the input after the event there
abbrev pub next_cell : FlatNet → Cell → Cell
next_cell f (Input i) = And (next_place f (i + 2)) (next_place f (i + 2))
next_cell f cell = renumbered (next_place f) cell

-- the constants and inputs; the gates as the event comes; the edges; the states after the event; and the gates after it
abbrev pub unrolled_cells : FlatNet → List Cell
unrolled_cells f =
    first_cells (unrolled_inputs f) ++ (
    map (renumbered (present_place f)) (gates f) ++ (
    flat_map (edge_cells f) (range_with_len 0 (ports f)) ++ (
    state_cells f 0 f.regs ++ map (next_cell f) (gates f))))

abbrev pub unrolled : FlatNet → Netlist
unrolled f = record { inputs = unrolled_inputs f; cells = unrolled_cells f; boxes = []; outs = [] }

-- its one output is 1 where a cell of the specification, the invariant, is 1 as the event comes and 0 after it; where a
-- care cell is given, this is 1 as well as the event comes
abbrev pub with_violation : FlatNet → ℕ → Netlist → Netlist
with_violation f k net = record net {
  cells = net.cells ++ (Not (next_place f k) ∷ And (present_place f k) (length net.cells) ∷ []);
  outs = suc (length net.cells) ∷ [];
}

abbrev pub with_care : FlatNet → Option ℕ → Netlist → Netlist
with_care f None net = net
with_care f (Some c) net = record net {
  cells = net.cells ++ (And (present_place f c) (length net.cells - 1) ∷ []);
  outs = length net.cells ∷ [];
}

abbrev pub violation : FlatNet → ℕ → Option ℕ → Netlist
violation f k care = with_care f care (with_violation f k (unrolled f))

-- a netlist with the same inputs whose one output is 0
abbrev pub never : ℕ → Netlist
never inputs = record { inputs = inputs; cells = first_cells inputs; boxes = []; outs = 0 ∷ [] }
