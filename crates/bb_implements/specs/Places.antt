-- The list of cells of a design. Each place of the list has a name: a constant, an input, a bit of a net, an operator
-- of an expression or of a gate, or an output pin of a box. The place of a net's bit is a buffer (copy) of the place
-- that drives it; a bit without driver is a buffer of the constant 0. Expressions are in the list as the steps into
-- which they are lowered: an operator is a cell, and a step that is a constant or a bit of a net has the place of that.
-- So there is a cell for each occurrence of an operator in each scope, and nothing is folded, joined or dropped. If
-- each step had a place of its own, a list could be of any length, as lowering leaves open how many steps are no
-- operators. The numbers of the places are a permutation of them, of which only the front has a fixed order.
use Rattle.std.specs.Prelude.{◌≡◌, ℕ, zero, suc, ◌+◌, ◌-◌, Bool, true, false, if◌then◌else◌, List, [], ◌∷◌, ◌++◌, map, length, All, IsPermutation, Option, Some, None, slice_index}
use Rattle.std.specs.List.{find, flat_map, filter_map, zip, enumerate_from, range_with_len}
use Rattle.std.specs.Option.{option_map, option_map_or}
use Rattle.bb_ast.specs.declared.module.Gate.{Gate}
use Rattle.bb_ast.specs.declared.module.Gate.TheVariants as gates
use Rattle.bb_ast.specs.Syntax.{Expression}
use Rattle.bb_names.specs.Declarations.{range_of}
use Rattle.bb_names.specs.Nets.{nets_of}
use Rattle.bb_expr.specs.declared.step.BitStep.{BitStep}
use Rattle.bb_expr.specs.declared.step.BitStep.TheVariants as steps
use Rattle.bb_expr.specs.Lowered.{name_at, IsLowered}
use Rattle.bb_net.specs.declared.loose.LooseCell.{LooseCell}
use Rattle.bb_net.specs.declared.loose.LooseCell.TheVariants as cell
use Rattle.bb_net.specs.Loose.{LooseList, loose_at}
use Rattle.bb_net.specs.Netlists.{Pins}
use Rattle.bb_design.specs.Hierarchy.{Design, Scope, path_to, boxes}
use Rattle.bb_design.specs.NetBits.{Bit, same_bit, bits_named, pin_bits, net_order, input_bits, output_bits, top_outputs, written_bits}
use Rattle.bb_design.specs.Contexts.{width_of, context_width}
use Rattle.bb_bits.specs.Bits.{low_bits}
use Rattle.bb_design.specs.Constructs.{Construct, Assignment, GateInstance, Register, SupplyNet, InputConnection, OutputConnection, BoxContents, parts}
use Rattle.bb_design.specs.GateFunctions.{inverts}
use Rattle.bb_design.specs.Registers.{registers, cut_bits}

pub data CellName : Type 0 where
  Constant : Bool → CellName
  -- an input of the flat netlist
  Input : ℕ → CellName
  NetBit : Bit → CellName
  -- a step of an expression: the number of the construct, of the expression in it, and of the step; one that is no
  -- operator has the place of its constant or its bit
  Step : ℕ → ℕ → ℕ → CellName
  -- the operator of a gate by which an input, not the first, is joined to those before it: the numbers of the construct
  -- and of the input
  Joined : ℕ → ℕ → CellName
  -- the complement in a gate that inverts
  Inverted : ℕ → CellName
  -- an output pin: the numbers of the box and of the pin
  BoxPin : ℕ → ℕ → CellName

-- the expressions of a construct that make cells, in text order, each with the width at which it is taken
abbrev pub lowered_in : Scope × Construct → List (Expression × ℕ)
lowered_in (s, Assignment left right) = (right, context_width s left right) ∷ []
lowered_in (s, GateInstance gate outs ins) = map (λ e. (e, width_of s e)) ins
lowered_in (s, Register r) = (r.right, context_width s r.left r.right) ∷ []
lowered_in (s, SupplyNet high n) = []
lowered_in (s, InputConnection i pin e) = (e, width_of s e) ∷ []
lowered_in (s, OutputConnection i pin e) = []
lowered_in (s, BoxContents) = []

-- the steps of an expression, and for each of its bits, the most significant first, the step that gives it
pub record Steps : Type 0 where
  pub all : List BitStep
  pub bits : List ℕ

-- how each expression is lowered, by the numbers of its construct and of the expression in it
abbrev pub Lowering : Type 0
Lowering = ℕ → ℕ → Steps

abbrev pub IsLoweringOf : Lowering → ℕ × (Scope × Construct) → Type 0
IsLoweringOf lowering part = All (λ x. IsLowered (nets_of part.1.0.source) (range_of part.1.0.source) x.1.0 x.1.1 (lowering part.0 x.0).all (lowering part.0 x.0).bits)
    (enumerate_from 0 (lowered_in part.1))

-- each expression of the design is lowered
abbrev pub IsLowering : Design → Lowering → Type 0
IsLowering d lowering = All (IsLoweringOf lowering) (enumerate_from 0 (parts d))

-- the places of the bits of an expression
abbrev pub step_places : Lowering → ℕ → ℕ → List CellName
step_places lowering k x = map (Step k x) (lowering k x).bits

-- the place of an input of a gate
abbrev pub terminal_place : Lowering → ℕ → ℕ → CellName
terminal_place lowering k x = Step k x (slice_index (lowering k x).bits 0)

-- the place of the inputs of a gate up to one of them, joined
abbrev pub joined_place : Lowering → ℕ → ℕ → CellName
joined_place lowering k zero = terminal_place lowering k 0
joined_place lowering k (suc x) = Joined k (suc x)

-- the place of a gate with this many inputs
abbrev pub gate_place : Lowering → Gate → ℕ → ℕ → CellName
gate_place lowering gate k count = if inverts gate then Inverted k else joined_place lowering k (count - 1)

-- what a construct drives, each bit with the place that drives it
abbrev pub given_at : Lowering → ℕ × (Scope × Construct) → List (Bit × CellName)
given_at lowering (k, (s, Assignment left right)) = zip (written_bits s left) (low_bits (length (written_bits s left)) (step_places lowering k 0))
given_at lowering (k, (s, GateInstance gate outs ins)) = map (λ b. (b, gate_place lowering gate k (length ins))) (flat_map (written_bits s) outs)
given_at lowering (k, (s, Register r)) = []
given_at lowering (k, (s, SupplyNet high n)) = map (λ b. (b, Constant high)) (bits_named s n)
given_at lowering (k, (s, InputConnection i pin e)) = zip (pin_bits (path_to s.path i) pin) (step_places lowering k 0)
given_at lowering (k, (s, OutputConnection i pin e)) = zip (written_bits s e) (map NetBit (pin_bits (path_to s.path i) pin))
given_at lowering (k, (s, BoxContents)) = []

-- the output pins of a box
abbrev pub given_by_box : ℕ × Scope → List (Bit × CellName)
given_by_box (b, s) = map (λ x. (x.1, BoxPin b x.0)) (enumerate_from 0 (output_bits s))

-- each driven bit with the place that drives it: inputs and registers, then pins of boxes, then what constructs drive
abbrev pub driving_places : Design → Lowering → List (Bit × CellName)
driving_places d lowering = map (λ x. (x.1, Input x.0)) (enumerate_from 0 (cut_bits d)) ++ flat_map given_by_box (enumerate_from 0 (boxes d))
    ++ flat_map (given_at lowering) (enumerate_from 0 (parts d))

-- the place of a bit in such a list; what is not there is 0
abbrev pub place_in : List (Bit × CellName) → Bit → CellName
place_in all b = option_map_or (λ x. x.1) (find (λ x. same_bit b x.0) all) (Constant false)

-- the data of registers, each register bit with the place that gives its next state
abbrev pub data_at : Lowering → ℕ × (Scope × Construct) → List (Bit × CellName)
data_at lowering (k, (s, Register r)) = zip (written_bits s r.left) (low_bits (length (written_bits s r.left)) (step_places lowering k 0))
data_at lowering (k, (s, c)) = []

abbrev pub data_places : Design → Lowering → List CellName
data_places d lowering = map (λ r. place_in (flat_map (data_at lowering) (enumerate_from 0 (parts d))) r.bit) (registers d)

-- what is at the places, where number gives the number of a place

abbrev pub Numbering : Type 0
Numbering = CellName → ℕ

-- the place of a bit of a net, given by its place among the nets of its scope
abbrev pub net_place : Scope → ℕ → ℕ → CellName
net_place s n i = NetBit (record { path = s.path; net = name_at (nets_of s.source) n; place = i })

-- a step that is a constant or a bit of a net has no cell of its own but the place of that
abbrev pub IsStepAt : Numbering → Scope → BitStep → ℕ → Type 0
IsStepAt number s (steps.Const b) place = place ≡ number (Constant b)
IsStepAt number s (steps.Net n i) place = place ≡ number (net_place s n i)
IsStepAt number s step place = Unit {0}

-- the cell of a step that is an operator, where step gives the places of the other steps
abbrev pub step_cell : (ℕ → ℕ) → BitStep → Option LooseCell
step_cell step (steps.Const b) = None
step_cell step (steps.Net n i) = None
step_cell step (steps.Not a) = Some (cell.Not (step a))
step_cell step (steps.And a b) = Some (cell.And (step a) (step b))
step_cell step (steps.Or a b) = Some (cell.Or (step a) (step b))
step_cell step (steps.Xor a b) = Some (cell.Xor (step a) (step b))
step_cell step (steps.Mux c t e) = Some (cell.Mux (step c) (step t) (step e))

-- the operators of an expression with their cells
abbrev pub step_cells : Lowering → Numbering → ℕ → ℕ → List (CellName × LooseCell)
step_cells lowering number k x = filter_map (λ y. option_map (λ c. (Step k x y.0, c)) (step_cell (λ a. number (Step k x a)) y.1)) (enumerate_from 0 (lowering k x).all)

-- the other steps of a construct are where the constants and the bits of nets are
abbrev pub AreSteps : Lowering → Numbering → ℕ × (Scope × Construct) → Type 0
AreSteps lowering number (k, (s, c)) =
    All (λ x. All (λ y. IsStepAt number s y.1 (number (Step k x y.0))) (enumerate_from 0 (lowering k x).all)) (range_with_len 0 (length (lowered_in (s, c))))

-- the operator that joins the inputs of a gate; buf and not have none to join
abbrev pub join_cell : Gate → ℕ → ℕ → LooseCell
join_cell gates.And a b = cell.And a b
join_cell gates.Nand a b = cell.And a b
join_cell gates.Or a b = cell.Or a b
join_cell gates.Nor a b = cell.Or a b
join_cell gates.Xor a b = cell.Xor a b
join_cell gates.Xnor a b = cell.Xor a b
join_cell gates.Buf a b = cell.Copy a
join_cell gates.Not a b = cell.Copy a

-- the operators of a gate with this many inputs
abbrev pub joining_places : Lowering → Numbering → ℕ → Gate → ℕ → List (CellName × LooseCell)
joining_places lowering number k gate count = map (λ x. (Joined k (x + 1), join_cell gate (number (joined_place lowering k x)) (number (terminal_place lowering k (x + 1))))) (range_with_len 0 (count - 1))

abbrev pub inverting_place : Lowering → Numbering → ℕ → Gate → ℕ → List (CellName × LooseCell)
inverting_place lowering number k gate count = if inverts gate then (Inverted k, cell.Not (number (joined_place lowering k (count - 1)))) ∷ [] else []

abbrev pub gate_places : Lowering → Numbering → ℕ → Construct → List (CellName × LooseCell)
gate_places lowering number k (GateInstance gate outs ins) = joining_places lowering number k gate (length ins) ++ inverting_place lowering number k gate (length ins)
gate_places lowering number k c = []

-- the places of a construct, but for the pins of a box
abbrev pub places_at : Lowering → Numbering → ℕ × (Scope × Construct) → List (CellName × LooseCell)
places_at lowering number (k, (s, c)) = flat_map (step_cells lowering number k) (range_with_len 0 (length (lowered_in (s, c)))) ++ gate_places lowering number k c

abbrev pub box_places : ℕ × Scope → List (CellName × LooseCell)
box_places (b, s) = map (λ x. (BoxPin b x.0, cell.BoxOut b x.0)) (enumerate_from 0 (output_bits s))

-- the places with which the list begins, in this order: constants, inputs, and the bits of all nets
abbrev pub prefix_places : Design → Lowering → Numbering → List (CellName × LooseCell)
prefix_places d lowering number = (Constant false, cell.Const false) ∷ (Constant true, cell.Const true)
    ∷ map (λ i. (Input i, cell.Input i)) (range_with_len 0 (length (cut_bits d)))
    ++ map (λ b. (NetBit b, cell.Copy (number (place_in (driving_places d lowering) b)))) (net_order d)

-- the other places
abbrev pub operator_places : Design → Lowering → Numbering → List (CellName × LooseCell)
operator_places d lowering number = flat_map box_places (enumerate_from 0 (boxes d)) ++ flat_map (places_at lowering number) (enumerate_from 0 (parts d))

abbrev pub placed_cells : Design → Lowering → Numbering → List (CellName × LooseCell)
placed_cells d lowering number = prefix_places d lowering number ++ operator_places d lowering number

-- the pins of a box: the places of the bits of its input ports, and those of its output pins
abbrev pub pins_of : Numbering → ℕ × Scope → Pins
pins_of number (b, s) = record { ins = map (λ x. number (NetBit x)) (input_bits s); outs = map (λ x. number (BoxPin b x.0)) (enumerate_from 0 (output_bits s)) }

-- l is the list of cells of the design, where expressions are lowered so
pub record IsListOf (d : Design) (lowering : Lowering) (l : LooseList) : Type 0 where
  pub number : Numbering
  pub inputs : l.inputs ≡ length (cut_bits d)
  -- the first places are in their order, the others after them in any order, and there are no more
  pub prefix : map (λ x. number x.0) (prefix_places d lowering number) ≡ range_with_len 0 (length (prefix_places d lowering number))
  pub numbers : IsPermutation (map (λ x. number x.0) (placed_cells d lowering number)) (range_with_len 0 (length l.cells))
  -- what is at each of them
  pub cells : All (λ x. loose_at l (number x.0) ≡ x.1) (placed_cells d lowering number)
  -- the boxes in elaboration order
  pub boxes : l.boxes ≡ map (pins_of number) (enumerate_from 0 (boxes d))
  -- the outputs of the top, and then the data of the registers
  pub outs : l.outs ≡ map (λ b. number (NetBit b)) (top_outputs d) ++ map number (data_places d lowering)
  -- the steps that are no operators
  pub steps : All (AreSteps lowering number) (enumerate_from 0 (parts d))
