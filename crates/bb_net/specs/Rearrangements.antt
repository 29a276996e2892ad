-- A netlist with its inputs in another order and with its outputs picked anew: what it takes to compare two netlists by
-- position whose inputs and outputs have the same names in different orders. No cell is added, joined or dropped; only
-- the inputs change their places.
use Rattle.std.specs.Prelude.{◌≡◌, ℕ, ◌+◌, ◌<◌, zero, suc, Bool, List, length, map, All, slice_index}
use Rattle.std.specs.List.{slice_index_or}
use Rattle.bb_net.specs.declared.cell.Cell.{Cell}
use Rattle.bb_net.specs.declared.cell.Cell.TheVariants.{Const, Input, Not, And, Or, Xor, Mux, BoxOut}
use Rattle.bb_net.specs.Netlists.{Netlist, IsNetlist, cell_at}
use Rattle.bb_net.specs.Orders.{moved_pins}
use Rattle.bb_net.specs.Values.{bit_of, value_of}

-- the number that an input has in the new netlist, where the numbers are listed in the old order
abbrev pub new_input : List ℕ → ℕ → ℕ
new_input numbers i = slice_index_or numbers i i

-- and the place that a cell has there: input i is at the place i + 2
abbrev pub new_place : List ℕ → ℕ → ℕ
new_place numbers zero = zero
new_place numbers (suc zero) = suc zero
new_place numbers (suc (suc i)) = new_input numbers i + 2

abbrev pub moved_cell : List ℕ → Cell → Cell
moved_cell numbers (Const b) = Const b
moved_cell numbers (Input i) = Input (new_input numbers i)
moved_cell numbers (Not a) = Not (new_place numbers a)
moved_cell numbers (And a b) = And (new_place numbers a) (new_place numbers b)
moved_cell numbers (Or a b) = Or (new_place numbers a) (new_place numbers b)
moved_cell numbers (Xor a b) = Xor (new_place numbers a) (new_place numbers b)
moved_cell numbers (Mux c t e) = Mux (new_place numbers c) (new_place numbers t) (new_place numbers e)
moved_cell numbers (BoxOut b p) = BoxOut b p

-- each cell is at its new place with its operands moved; output j of the new netlist is the output picks(j) of the old
-- one
pub record IsRearranged (numbers picks : List ℕ) (old new : Netlist) : Type 0 where
  pub inputs : new.inputs ≡ old.inputs
  -- a number for each input
  pub numbered : length numbers ≡ old.inputs
  pub numbers_there : All (λ n. n < old.inputs) numbers
  pub cell_count : length new.cells ≡ length old.cells
  pub cells : (k : ℕ) → k < length old.cells → cell_at new.cells (new_place numbers k) ≡ moved_cell numbers (cell_at old.cells k)
  pub boxes : new.boxes ≡ map (moved_pins (new_place numbers)) old.boxes
  pub outs : new.outs ≡ map (λ j. new_place numbers (slice_index old.outs j)) picks

-- a cell has the value that it had, where each input has the bit that it had
abbrev pub RearrangedKeepsValues : Type 0
RearrangedKeepsValues = (numbers picks : List ℕ) (old new : Netlist) → IsNetlist old → IsNetlist new → IsRearranged numbers picks old new
    → (x : List Bool) (box : ℕ → ℕ → List Bool → Bool) (k : ℕ) → k < length old.cells
    → bit_of (value_of new x box) (new_place numbers k) ≡ bit_of (value_of old (map (bit_of x) numbers) box) k

-- a netlist can be rearranged by numbers of its inputs, and its outputs picked
abbrev pub RearrangedNetsExist : Type 0
RearrangedNetsExist = (net : Netlist) (numbers picks : List ℕ) → IsNetlist net → length numbers ≡ net.inputs → All (λ n. n < net.inputs) numbers → All (λ j. j < length net.outs) picks
    → (new : Netlist) × IsNetlist new × IsRearranged numbers picks net new
