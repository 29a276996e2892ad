-- What an event does to a specification without boxes, by the bits of the inputs of its unrolling: which input bits have
-- an edge, and the inputs and states after it. An event breaks a cell that it takes from 1 to 0; any other keeps it.
use Rattle.std.specs.Prelude.{◌≡◌, ℕ, ◌+◌, ◌<◌, suc, Bool, true, false, not, ◌&&◌, if◌then◌else◌, List, [], ◌∷◌, ◌++◌, length, map}
use Rattle.std.specs.Prelude.{slice_get, slice_index, Option, None, Some}
use Rattle.std.specs.List.{range_with_len}
use Rattle.bb_net.specs.declared.flat.Reg.{Reg}
use Rattle.bb_net.specs.Flats.{FlatNet, IsFlat, HaveClocks}
use Rattle.bb_net.specs.Netlists.{IsNetlist}
use Rattle.bb_net.specs.Equivalence.{out_bit}
use Rattle.bb_net.specs.Values.{bit_of, flat}
use Rattle.bb_unroll.specs.Unrolled.{ports, unrolled_inputs, next_input, rise_input, fall_input, present_place, next_place}
use Rattle.bb_unroll.specs.Unrolled.{clock_of, unrolled, violation}

-- the edge of a bit of an input port: none, or whether it falls
abbrev pub edge_at : FlatNet → List Bool → ℕ → Option Bool
edge_at f x i = if bit_of x (rise_input f i) then Some false else (if bit_of x (fall_input f i) then Some true else None)

abbrev pub is_edge : Option Bool → Bool → Bool
is_edge None falling = false
is_edge (Some falls) falling = if falls then falling else not falling

-- the clock of a register has the edge at which it stores
abbrev pub stores : FlatNet → List Bool → Reg → Bool
stores f x r = is_edge (edge_at f x (clock_of r.clock)) r.falling

-- the states after the event, from the register of a number on
abbrev pub states_after : FlatNet → List Bool → ℕ → List Reg → List Bool
states_after f x j [] = []
states_after f x j (r ∷ rest) =
    (if stores f x r then bit_of (flat f.net x []) (slice_index f.net.outs (length f.outs + j)) else bit_of x (ports f + j))
    ∷ states_after f x (suc j) rest

-- the inputs of the specification after it
abbrev pub inputs_after : FlatNet → List Bool → List Bool
inputs_after f x = map (λ i. bit_of x (next_input f i)) (range_with_len 0 (ports f)) ++ states_after f x 0 f.regs

-- a cell, the invariant, is 1 as the event comes, and 0 after it; and where a care cell is given, it is 1 as it comes
abbrev pub is_one_at : Option ℕ → List Bool → Bool
is_one_at None bits = true
is_one_at (Some c) bits = bit_of bits c

abbrev pub is_violated : FlatNet → ℕ → Option ℕ → List Bool → Bool
is_violated f k care x = is_one_at care (flat f.net x []) && (bit_of (flat f.net x []) k && not (bit_of (flat f.net (inputs_after f x) []) k))

-- no event does that, whatever the inputs, states and edges are and whatever the inputs are after it
abbrev pub IsKept : FlatNet → ℕ → Option ℕ → Type 0
IsKept f k care = (x : List Bool) → length x ≡ unrolled_inputs f → is_violated f k care x ≡ false

-- this one does
abbrev pub IsBrokenAt : FlatNet → ℕ → Option ℕ → List Bool → Type 0
IsBrokenAt f k care x = (length x ≡ unrolled_inputs f) × (is_violated f k care x ≡ true)

-- a flat netlist that can be unrolled: it has no box, and the clock of each register is a bit of an input port
pub record CanBeUnrolled (f : FlatNet) : Type 0 where
  pub is_flat : IsFlat f
  pub no_box : f.net.boxes ≡ []
  pub clocked : HaveClocks f

-- the cell that is the output of this name
abbrev pub IsOutputCell : FlatNet → List ℕ → ℕ → Type 0
IsOutputCell f name k = (j : ℕ) × (slice_get f.outs j ≡ Some name) × (k ≡ slice_index f.net.outs j)

-- laws that a reader expects

-- both frames of the unrolling have the bits of the specification
abbrev pub UnrolledHaveBits : Type 0
UnrolledHaveBits = (f : FlatNet) → CanBeUnrolled f → (x : List Bool) (k : ℕ) → k < length f.net.cells
    → (bit_of (flat (unrolled f) x []) (present_place f k) ≡ bit_of (flat f.net x []) k)
    × (bit_of (flat (unrolled f) x []) (next_place f k) ≡ bit_of (flat f.net (inputs_after f x) []) k)

-- and the one output of a violation says whether the event is one
abbrev pub ViolationsAreSeen : Type 0
ViolationsAreSeen = (f : FlatNet) (k : ℕ) (care : Option ℕ) → CanBeUnrolled f → IsNetlist (violation f k care) → k < length f.net.cells
    → ((c : ℕ) → care ≡ Some c → c < length f.net.cells) → (x : List Bool)
    → out_bit (violation f k care) (flat (violation f k care) x []) 0 ≡ is_violated f k care x
