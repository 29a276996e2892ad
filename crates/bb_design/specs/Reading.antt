-- Which bits matter. A cell reads its operands; a register reads its data and its clock, a box its input pins, and from
-- outside the outputs of the top are read. A bit is a buffer (copy) of another where it has its value by constructs
-- alone that make no cell: what is read of the buffer is read of the other. No other bit is read. The standard has no
-- such rule: a net without driver has the value z there (IEEE 1364-2005, 4.2.1), which only matters where the net is
-- read.
use Rattle.std.specs.Prelude.{◌⊎◌, List, [], ◌∷◌, ◌++◌, map, Contains}
use Rattle.std.specs.List.{flat_map}
use Rattle.bb_expr.specs.Terms.{Term, Const, Net, Not, And, Or, Xor, Mux}
use Rattle.bb_design.specs.Hierarchy.{Path, Design, Scope}
use Rattle.bb_design.specs.NetBits.{Bit, input_bits, top_outputs, written_bits}
use Rattle.bb_design.specs.Contexts.{width_of, context_width, made_in}
use Rattle.bb_design.specs.Constructs.{Construct, Assignment, GateInstance, Register, SupplyNet, InputConnection, OutputConnection, BoxContents, parts}
use Rattle.bb_design.specs.GateFunctions.{gate_cells}
use Rattle.bb_design.specs.Registers.{data_terms}
use Rattle.bb_bits.specs.Closures.{Leads}
use Rattle.bb_design.specs.Drivers.{DrivingSource, Free, MadeOf, Box, drives, terminal_terms}

-- the cells of a construct, but for the output pins of a box: each is what its operator is made of
abbrev pub cells_at : Scope × Construct → List Term
cells_at (s, Assignment left right) = (made_in s right (context_width s left right)).cells
cells_at (s, GateInstance gate outs ins) = flat_map (λ e. (made_in s e (width_of s e)).cells) ins ++ gate_cells gate (terminal_terms s ins)
cells_at (s, Register r) = (made_in s r.right (context_width s r.left r.right)).cells
cells_at (s, SupplyNet high n) = []
cells_at (s, InputConnection i pin e) = (made_in s e (width_of s e)).cells
cells_at (s, OutputConnection i pin e) = []
cells_at (s, BoxContents) = []

-- the operands of a cell
abbrev pub operand_terms : Term → List Term
operand_terms (Const b) = []
operand_terms (Net n i) = []
operand_terms (Not a) = a ∷ []
operand_terms (And a b) = a ∷ b ∷ []
operand_terms (Or a b) = a ∷ b ∷ []
operand_terms (Xor a b) = a ∷ b ∷ []
operand_terms (Mux c t e) = c ∷ t ∷ e ∷ []

-- the bit that a term is, where it is one
abbrev pub bit_itself : Path → Term → List Bit
bit_itself path (Net n i) = record { path = path; net = n; place = i } ∷ []
bit_itself path t = []

-- what the construct reads beside the operands of its cells
abbrev pub read_beside : Scope × Construct → List Bit
read_beside (s, Register r) = written_bits s r.clock ++ flat_map (bit_itself s.path) (data_terms s r)
read_beside (s, BoxContents) = input_bits s
read_beside (s, c) = []

abbrev pub read_at : Scope × Construct → List Bit
read_at x = flat_map (λ cell. flat_map (bit_itself x.0.path) (operand_terms cell)) (cells_at x) ++ read_beside x

-- the bits that are read directly
abbrev pub read_directly : Design → List Bit
read_directly d = top_outputs d ++ flat_map read_at (parts d)

-- the bit of which a driven bit is a buffer, where it is one
abbrev pub copied : DrivingSource → List Bit
copied Free = []
copied (MadeOf path t) = bit_itself path t
copied (Box s pin) = []

-- each buffer with the bit that it buffers
abbrev pub copied_bits : Design → List (Bit × Bit)
copied_bits d = flat_map (λ x. map (λ c. (x.bit, c)) (copied x.source)) (drives d)

-- a bit is read
abbrev pub IsReadBit : Design → Bit → Type 0
IsReadBit d b = Contains (read_directly d) b ⊎ ((c : Bit) × Contains (read_directly d) c × Leads (copied_bits d) c b)
