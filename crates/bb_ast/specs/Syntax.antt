-- The syntax of a text as plain data: names are lists of bytes, lists are lists, and nothing says where a value lies in
-- memory. Two sources are the same exactly where these are equal. A sized number's bits go from the most significant
-- on, the parts of a concatenation too, and a range from the leftmost index to the rightmost (IEEE 1364-2005, 4.3.1,
-- 5.1.14 and 7).
use Rattle.std.specs.Prelude.{ℕ, List, [], ◌∷◌, Option, Bool}
use Rattle.bb_ast.specs.declared.expr.Op.{Op}
use Rattle.bb_ast.specs.declared.operators.WordOp.{WordOp}
use Rattle.bb_ast.specs.declared.operators.FoldOp.{FoldOp}
use Rattle.bb_ast.specs.declared.module.Gate.{Gate}
use Rattle.bb_ast.specs.declared.module.Port.{Port}
use Rattle.bb_ast.specs.declared.module.Range.{Range}

mutual
  -- an expression
  pub data Expression : Type 0 where
    Net : List ℕ → Expression
    Bit : List ℕ → ℕ → Expression
    Part : List ℕ → ℕ → ℕ → Expression
    Sized : List Bool → Expression
    Plain : ℕ → Expression
    Not : ℕ → Expression → Expression
    Fold : FoldOp → Expression → Expression
    Chain : Expression → Operands → Expression
    Words : Expression → WordOperands → Expression
    Cond : Arms → Expression → Expression
    Concat : Parts → Expression
    Repeat : ℕ → Parts → Expression

  -- the operators of a chain, each with the operand on its right
  pub data Operands : Type 0 where
    no_operand : Operands
    operand : Op → Expression → Operands → Operands

  -- the operators on words of one level, each with the operand on its right
  pub data WordOperands : Type 0 where
    no_word : WordOperands
    word : WordOp → Expression → WordOperands → WordOperands

  -- the conditions of a conditional, each with its value
  pub data Arms : Type 0 where
    no_arm : Arms
    arm : Expression → Expression → Arms → Arms

  -- expressions side by side
  pub data Parts : Type 0 where
    no_part : Parts
    part : Expression → Parts → Parts

abbrev pub operands : List (Op × Expression) → Operands
operands [] = no_operand
operands (x ∷ xs) = operand x.0 x.1 (operands xs)

abbrev pub word_operands : List (WordOp × Expression) → WordOperands
word_operands [] = no_word
word_operands (x ∷ xs) = word x.0 x.1 (word_operands xs)

abbrev pub arms : List (Expression × Expression) → Arms
arms [] = no_arm
arms (x ∷ xs) = arm x.0 x.1 (arms xs)

abbrev pub listed_parts : List Expression → Parts
listed_parts [] = no_part
listed_parts (x ∷ xs) = part x (listed_parts xs)

-- connections: by order, where none is an open connection, or by the names of ports
pub data PlainConns : Type 0 where
  Order : List (Option Expression) → PlainConns
  Named : List (List ℕ × Option Expression) → PlainConns

-- a register: the edge and net of its clock, its left and its right side
pub record PlainAlways : Type 0 where
  pub falling : Bool
  pub clock : Expression
  pub left : Expression
  pub right : Expression

-- an item of a module: a gate has a name or none, and its terminals in text order
pub data PlainBody : Type 0 where
  Ports : Port → List (List ℕ) → PlainBody
  Nets : Option Range → List (List ℕ × Option Expression) → PlainBody
  Regs : Option Range → List (List ℕ) → PlainBody
  Supply : Bool → Option Range → List (List ℕ) → PlainBody
  Assign : List (Expression × Expression) → PlainBody
  Gates : Gate → List (Option (List ℕ) × List Expression) → PlainBody
  Calls : List ℕ → List (List ℕ × PlainConns) → PlainBody
  Always : PlainAlways → PlainBody

pub record PlainItem : Type 0 where
  pub line : ℕ
  pub body : PlainBody

-- a name of a header, with its declaration where the header has it
pub record PlainHead : Type 0 where
  pub name : List ℕ
  pub decl : Option Port

pub record PlainModule : Type 0 where
  pub name : List ℕ
  pub line : ℕ
  pub heads : List PlainHead
  pub items : List PlainItem
