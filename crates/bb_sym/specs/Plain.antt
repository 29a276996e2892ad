-- The bits of the cells of nets, and where outputs are wrong, as Boolean functions of points. A point gives a bit to
-- each variable of a check, the first variable first. Checks order their variables differently, so how a point is read
-- is a parameter: which bits the inputs have, and which the output pins of the boxes.
use Rattle.std.specs.Prelude.{◌≡◌, ◌≤◌, ◌<◌, ℕ, zero, suc, ◌+◌, ◌-◌, Bool, false, true, List, [], ◌∷◌, ◌++◌, length, map, take, slice_index, slice_index_or}
use Rattle.std.specs.List.{list_any, range_with_len}
use Rattle.bb_bits.specs.Bits.{xor}
use Rattle.bb_bits.specs.Truth.{Truth, Bit, Halves, variable, quantified_block}
use Rattle.bb_net.specs.Netlists.{Netlist, box_at}
use Rattle.bb_net.specs.Values.{bit_of, flat, output_pins}

-- a function of bits, the first variable first
abbrev pub Function : Type 0
Function = List Bool → Bool

-- its truth table over n variables
abbrev pub table : ℕ → Function → Truth
table zero f = Bit (f [])
table (suc n) f = Halves (table n (λ x. f (false ∷ x))) (table n (λ x. f (true ∷ x)))

abbrev pub tables : ℕ → List Function → List Truth
tables n fs = map (table n) fs

abbrev pub variables : ℕ → List Truth
variables n = map (variable n) (range_with_len 0 n)

abbrev pub differ : Function → Function → Function
differ f g = λ x. xor (f x) (g x)

-- one of the first functions is 1
abbrev pub one_of : (ℕ → Function) → ℕ → Function
one_of f count = λ x. list_any (λ j. f j x) (range_with_len 0 count)

-- one of those up to a number is 1
abbrev pub first_of : (ℕ → Function) → ℕ → Function
first_of f j = one_of f (j + 1)

-- the places of the cells of a netlist, and the numbers of its outputs
abbrev pub cell_numbers : Netlist → List ℕ
cell_numbers net = range_with_len 0 (length net.cells)

abbrev pub output_numbers : Netlist → List ℕ
output_numbers net = range_with_len 0 (length net.outs)

-- how a point is read: the bits of the inputs, and those of the output pins of the boxes, box after box
pub record Reading : Type 0 where
  pub inputs : List Bool → List Bool
  pub pins : List Bool → List Bool

-- for a net without boxes, only the inputs
abbrev pub without_pins : Reading → Reading
without_pins r = record { inputs = r.inputs; pins = λ p. [] }

-- the bit of a cell
abbrev pub cell_bit : Reading → Netlist → ℕ → Function
cell_bit r net place = λ p. bit_of (flat net (r.inputs p) (r.pins p)) place

-- an output of the implementation is wrong
abbrev pub is_wrong_at : Reading → Netlist → Netlist → ℕ → Function
is_wrong_at r spec imp j = differ (cell_bit (without_pins r) spec (slice_index spec.outs j)) (cell_bit r imp (slice_index imp.outs j))

-- the variables and the bits of all cells, as functions of n variables
abbrev pub plain_functions_at : ℕ → Reading → Netlist → Netlist → List Truth
plain_functions_at n r spec imp = variables n ++ tables n (map (cell_bit (without_pins r) spec) (cell_numbers spec) ++ map (cell_bit r imp) (cell_numbers imp))

-- a table with the variables from each one of a block on quantified, the last one first
abbrev pub block_functions : (Bool → Bool → Bool) → ℕ → ℕ → Truth → List Truth
block_functions op first count t = map (λ k. quantified_block op (first + k) (count - k) t) (range_with_len 0 count)

-- there is a variable for each input, from the first one on, and for each output pin, from its box's first one on
pub record AreVariables (n first : ℕ) (starts : List ℕ) (net : Netlist) : Type 0 where
  pub few : n ≤ 2048
  pub inputs : first + net.inputs ≤ n
  pub pins : (b pin : ℕ) → pin < length (box_at net.boxes b).outs → (b < length starts) × (slice_index_or starts b 0 + pin < n)

-- a point of n variables is read so
pub record IsReadSo (n first : ℕ) (starts : List ℕ) (net : Netlist) (r : Reading) : Type 0 where
  pub inputs : (i : ℕ) → i < net.inputs → (p : List Bool) → length p ≡ n → bit_of (r.inputs p) i ≡ bit_of p (first + i)
  pub pins : (b pin : ℕ) → pin < length (box_at net.boxes b).outs → (p : List Bool) → length p ≡ n
      → bit_of (r.pins p) (output_pins (take b net.boxes) + pin) ≡ bit_of p (slice_index_or starts b 0 + pin)
