-- What the bits of a design may be. A world gives a bit to each bit of each net of each scope, so that each construct
-- holds: a gate's outputs are the gate's function of its inputs (IEEE 1364-2005, 7.2, 7.3), the left side of an
-- assignment has the low bits of the right side (6.1), supply nets are constant (4.6.6), a port and what is connected
-- to it have the same bits (12.3.9), and the outputs of a box are the row that its contents give for its inputs. A
-- register may have any bit: its next state is an output. Only the bits 0 and 1 are looked at.
use Rattle.std.specs.Prelude.{◌≡◌, Bool, false, List, ◌++◌, map, length, All, Some}
use Rattle.std.specs.List.{flat_map, slice_index_or}
use Rattle.bb_ast.specs.Syntax.{PlainModule}
use Rattle.bb_bits.specs.Contents.{Contents, HasShape, row_at}
use Rattle.bb_expr.specs.Values.{Bits}
use Rattle.bb_net.specs.CutPoints.{CutInput, TopInput, State, CutOutput, TopOutput, NextState}
use Rattle.bb_design.specs.Hierarchy.{Path, Design, Scope, path_to, module_at, boxes}
use Rattle.bb_design.specs.NetBits.{Bit, pin_bits, bits_named, input_bits, output_bits, top_inputs, top_outputs, written_bits}
use Rattle.bb_design.specs.Contexts.{width_of, value_in, assigned_values}
use Rattle.bb_design.specs.Constructs.{Construct, Assignment, GateInstance, Register, SupplyNet, InputConnection, OutputConnection, BoxContents, constructs_at}
use Rattle.bb_design.specs.GateFunctions.{on_bits, gate_gives}
use Rattle.bb_design.specs.Registers.{RegisterBit, registers}
use Rattle.bb_design.specs.Texts.{path_text, bit_text}

-- a bit for each path, net and place
abbrev pub World : Type 0
World = Path → Bits

abbrev pub bit_in : World → Bit → Bool
bit_in w b = w b.path b.net b.place

abbrev pub bits_in : World → List Bit → List Bool
bits_in w bits = map (bit_in w) bits

-- the equation of a construct of a scope
abbrev pub Holds : Contents → World → Scope → Construct → Type 0
Holds contents w s (Assignment left right) = bits_in w (written_bits s left) ≡ assigned_values (w s.path) s left right
Holds contents w s (GateInstance gate outs ins) = All (λ b. bit_in w b ≡ gate_gives on_bits gate (flat_map (λ e. value_in (w s.path) s e (width_of s e)) ins)) (flat_map (written_bits s) outs)
Holds contents w s (Register r) = Unit {0}
Holds contents w s (SupplyNet high n) = All (λ b. bit_in w b ≡ high) (bits_named s n)
Holds contents w s (InputConnection i pin e) = bits_in w (pin_bits (path_to s.path i) pin) ≡ value_in (w s.path) s e (width_of s e)
Holds contents w s (OutputConnection i pin e) = bits_in w (written_bits s e) ≡ bits_in w (pin_bits (path_to s.path i) pin)
Holds contents w s BoxContents = bits_in w (output_bits s) ≡ row_at (contents (path_text s.path)) (bits_in w (input_bits s))

-- a world of a design under contents of its boxes
abbrev pub IsWorld : Design → Contents → World → Type 0
IsWorld d contents w = (path : Path) (m : PlainModule) → module_at d path ≡ Some m
    → All (Holds contents w (record { path = path; source = m })) (constructs_at d.text (record { path = path; source = m }))

-- contents fit: each box has as many rows of as many bits as its pins ask for
abbrev pub FitDesign : Design → Contents → Type 0
FitDesign d contents = All (λ s. HasShape (length (input_bits s)) (length (output_bits s)) (contents (path_text s.path))) (boxes d)

-- a bit for each cut input
abbrev pub Vector : Type 0
Vector = CutInput → Bool

pub record HasVector (d : Design) (x : Vector) (w : World) : Type 0 where
  pub inputs : All (λ b. bit_in w b ≡ x (TopInput (bit_text d b))) (top_inputs d)
  pub states : All (λ r. bit_in w r.bit ≡ x (State (bit_text d r.bit))) (registers d)

-- the next state of a register bit
abbrev pub next_bit : World → RegisterBit → Bool
next_bit w r = slice_index_or (assigned_values (w r.scope.path) r.scope r.item.left r.item.right) r.place false

-- the cut outputs and their bits: the output ports of the top in net order, then the registers in net order
abbrev pub outputs_in : Design → World → List (CutOutput × Bool)
outputs_in d w = map (λ b. (TopOutput (bit_text d b), bit_in w b)) (top_outputs d) ++ map (λ r. (NextState (bit_text d r.bit), next_bit w r)) (registers d)
