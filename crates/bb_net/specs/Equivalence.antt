-- When the bits of an implementation agree with its specification. Both are netlists with the same inputs and as many
-- outputs, and the specification has no box. A vector x is a list with a bit for each input, z one with a bit for each
-- output pin of the boxes, box after box; j is an output, counted from 0. An output is right where its bit is the one
-- that the specification has there, and wrong where it is the other.
use Rattle.std.specs.Prelude.{◌≡◌, ◌≢◌, ℕ, ◌<◌, Bool, List, [], length, slice_index}
use Rattle.bb_bits.specs.Tables.{TableBits}
use Rattle.bb_net.specs.Netlists.{Netlist}
use Rattle.bb_net.specs.Values.{bit_of, flat, flat_with, output_pins}

-- the bit at an output, in the value of a netlist's cells
abbrev pub out_bit : Netlist → List Bool → ℕ → Bool
out_bit net bits j = bit_of bits (slice_index net.outs j)

-- the bit that the specification has at an output
abbrev pub wanted_bit : Netlist → List Bool → ℕ → Bool
wanted_bit spec x j = out_bit spec (flat spec x []) j

-- a vector of the implementation's inputs
abbrev pub IsVector : Netlist → List Bool → Type 0
IsVector imp x = length x ≡ imp.inputs

-- bits for the output pins of its boxes
abbrev pub AreBoxOutputs : Netlist → List Bool → Type 0
AreBoxOutputs imp z = length z ≡ output_pins imp.boxes

-- one of its outputs
abbrev pub IsOutput : Netlist → ℕ → Type 0
IsOutput imp j = j < length imp.outs

-- at the vector x, where the implementation's cells have these bits, the output is right
abbrev pub IsRight : Netlist → Netlist → List Bool → List Bool → ℕ → Type 0
IsRight spec imp x bits j = out_bit imp bits j ≡ wanted_bit spec x j

abbrev pub IsWrong : Netlist → Netlist → List Bool → List Bool → ℕ → Type 0
IsWrong spec imp x bits j = out_bit imp bits j ≢ wanted_bit spec x j

-- every output is right
abbrev pub AllRight : Netlist → Netlist → List Bool → List Bool → Type 0
AllRight spec imp x bits = (j : ℕ) → IsOutput imp j → IsRight spec imp x bits j

-- some output is wrong
abbrev pub SomeWrong : Netlist → Netlist → List Bool → List Bool → Type 0
SomeWrong spec imp x bits = (j : ℕ) × IsOutput imp j × IsWrong spec imp x bits j

-- with these tables in the boxes every output is right at every vector
abbrev pub TablesMakeEquivalent : Netlist → Netlist → List TableBits → Type 0
TablesMakeEquivalent spec imp tables = (x : List Bool) → IsVector imp x → AllRight spec imp x (flat_with imp x tables)
