-- What is kept of an expression until its cells are appended to others: its operators, and what drives its low bits.
use Rattle.std.specs.Prelude.{◌≡◌, ℕ, ◌<◌, Bool, false, if◌then◌else◌, List, [], ◌∷◌, ◌++◌, map, length, All, Option, Some, None, slice_index}
use Rattle.std.specs.List.{fold, slice_index_or}
use Rattle.bb_bits.specs.Bits.{low_bits}
use Rattle.bb_expr.specs.declared.step.BitStep.{BitStep}
use Rattle.bb_expr.specs.declared.step.BitStep.TheVariants as steps
use Rattle.bb_expr.specs.declared.step.Lowered.{Lowered}
use Rattle.bb_net.specs.declared.loose.LooseCell.{LooseCell}
use Rattle.bb_net.specs.declared.loose.LooseCell.TheVariants as cell
use Rattle.bb_blast.specs.declared.logic.Operand.{Operand}
use Rattle.bb_blast.specs.declared.logic.Operand.TheVariants as operand
use Rattle.bb_blast.specs.declared.logic.Operator.{Operator}
use Rattle.bb_blast.specs.declared.logic.Operator.TheVariants as operator
use Rattle.bb_blast.specs.declared.logic.Logic.{Logic}
use Rattle.bb_blast.specs.Inside.Counting.{capped, after}

abbrev pub constant_place : Bool → ℕ
constant_place b = if b then 1 else 0

-- the place of a bit of a net, where the bits of the scope begin at a place and those of each net at a number
abbrev pub net_bit_place : ℕ → List ℕ → ℕ → ℕ → ℕ
net_bit_place bits starts n i = after (after bits (slice_index starts n)) i

-- what a step gives, where the next operator has a number
abbrev pub result_of : ℕ → BitStep → Operand
result_of next (steps.Const b) = operand.Const b
result_of next (steps.Net n i) = operand.Net n i
result_of next step = operand.Cell next

-- what gives the bit of a step; a step that is not there counts as the constant 0
abbrev pub operand_in : List Operand → ℕ → Operand
operand_in results k = slice_index_or results k (operand.Const false)

-- a step that is an operator, where at gives what drives the bits that it reads
abbrev pub operator_of : (ℕ → Operand) → BitStep → Option Operator
operator_of at (steps.Const b) = None
operator_of at (steps.Net n i) = None
operator_of at (steps.Not a) = Some (operator.Not (at a))
operator_of at (steps.And a b) = Some (operator.And (at a) (at b))
operator_of at (steps.Or a b) = Some (operator.Or (at a) (at b))
operator_of at (steps.Xor a b) = Some (operator.Xor (at a) (at b))
operator_of at (steps.Mux c t e) = Some (operator.Mux (at c) (at t) (at e))

abbrev pub with_operator : List Operator → Option Operator → List Operator
with_operator operators None = operators
with_operator operators (Some o) = operators ++ o ∷ []

-- the operators among steps, and what each step gives
pub record Kept : Type 0 where
  pub operators : List Operator
  pub results : List Operand

abbrev pub with_step : Kept → BitStep → Kept
with_step k step = record {
  operators = with_operator k.operators (operator_of (operand_in k.results) step);
  results = k.results ++ result_of (capped (length k.operators)) step ∷ [];
}

abbrev pub kept_of : List BitStep → Kept
kept_of all = fold with_step (record { operators = []; results = [] }) all

-- where an operand is: a bit of a net after the first of its scope, an operator after the first of them
abbrev pub operand_place : ℕ → List ℕ → ℕ → Operand → ℕ
operand_place bits starts first (operand.Const b) = constant_place b
operand_place bits starts first (operand.Net n i) = net_bit_place bits starts n i
operand_place bits starts first (operand.Cell k) = after first k

abbrev pub operator_cell : (Operand → ℕ) → Operator → LooseCell
operator_cell place (operator.Not a) = cell.Not (place a)
operator_cell place (operator.And a b) = cell.And (place a) (place b)
operator_cell place (operator.Or a b) = cell.Or (place a) (place b)
operator_cell place (operator.Xor a b) = cell.Xor (place a) (place b)
operator_cell place (operator.Mux c t e) = cell.Mux (place c) (place t) (place e)

-- cells with those of the operators after them, where the first cell is at the place start
abbrev pub with_logic : ℕ → ℕ → List ℕ → List LooseCell → Logic → List LooseCell
with_logic start bits starts cells g = cells ++ map (operator_cell (operand_place bits starts (after start (length cells)))) g.operators.items

-- the places of the bits of what comes after these cells
abbrev pub logic_places : ℕ → ℕ → List ℕ → List LooseCell → Logic → List ℕ
logic_places start bits starts cells g = map (operand_place bits starts (after start (length cells))) g.bits.items

-- an operand is of one of this many nets
abbrev pub IsOperandBelow : ℕ → Operand → Type 0
IsOperandBelow n (operand.Const b) = Unit {0}
IsOperandBelow n (operand.Net k i) = k < n
IsOperandBelow n (operand.Cell k) = Unit {0}

abbrev pub IsOperatorBelow : ℕ → Operator → Type 0
IsOperatorBelow n (operator.Not a) = IsOperandBelow n a
IsOperatorBelow n (operator.And a b) = IsOperandBelow n a × IsOperandBelow n b
IsOperatorBelow n (operator.Or a b) = IsOperandBelow n a × IsOperandBelow n b
IsOperatorBelow n (operator.Xor a b) = IsOperandBelow n a × IsOperandBelow n b
IsOperatorBelow n (operator.Mux c t e) = IsOperandBelow n c × (IsOperandBelow n t × IsOperandBelow n e)

pub record IsLogicAmong (n : ℕ) (g : Logic) : Type 0 where
  pub operators : All (IsOperatorBelow n) g.operators.items
  pub bits : All (IsOperandBelow n) g.bits.items

-- what is kept of an expression: its operators, and what drives this many of its low bits
pub record IsLogicOf (count : ℕ) (l : Lowered) (g : Logic) : Type 0 where
  pub operators : g.operators.items ≡ (kept_of l.steps.items).operators
  pub bits : g.bits.items ≡ map (operand_in (kept_of l.steps.items).results) (low_bits count l.bits.items)
