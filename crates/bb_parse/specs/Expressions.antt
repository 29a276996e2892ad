-- Expressions (IEEE 1364-2005, A.8.1, A.8.3 to A.8.6, in a profile; the grouping of conditionals is 5.1.13). An expression is a
-- conditional over chains. The chains are of nine levels, by the rows of table 5-4: level 0 is a primary with the operators before it,
-- and level n + 1 a chain of level n by the operators of row n. The rows, from the tightest on:
--     0  + -    1  << >>    2  < <= > >=    3  == !=    4  &    5  ^ ~^ ^~    6  |    7  &&    8  ||
-- A chain is grouped to the left, a conditional to the right. A rule takes as inner what may be in brackets and between ? and :, so
-- that the depth to which these nest is a number. Parentheses leave no trace.
use Rattle.std.specs.Prelude.{◌≡◌, ◌⊎◌, ℕ, zero, suc, ◌||◌, ◌==◌, List, [], ◌∷◌, Option, Some, None, Bool, MatchBool, if◌then◌else◌}
use Rattle.bb_ast.specs.declared.expr.Op.{Op}
use Rattle.bb_ast.specs.declared.expr.Op.TheVariants as bits
use Rattle.bb_ast.specs.declared.operators.WordOp.{WordOp}
use Rattle.bb_ast.specs.declared.operators.WordOp.TheVariants as words
use Rattle.bb_ast.specs.declared.operators.FoldOp.{FoldOp}
use Rattle.bb_ast.specs.declared.operators.FoldOp.TheVariants as folds
use Rattle.bb_ast.specs.Levels.{level_of}
use Rattle.bb_ast.specs.Syntax.{Expression, Net, Bit, Part, Sized, Plain, Not, Fold, Chain, Words, Cond, Concat, Repeat, operands, word_operands, arms, listed_parts}
use Rattle.bb_lex.specs.declared.mark.Mark.{Mark}
use Rattle.bb_lex.specs.declared.mark.Mark.TheVariants.{LeftRound, RightRound, LeftSquare, RightSquare, LeftBrace, RightBrace, Colon, Amp, Bar, Caret, Tilde, Query, Plus, Minus, Less, Greater, Bang, LessEqual, GreaterEqual, EqualEqual, BangEqual, LessLess, GreaterGreater, AmpAmp, BarBar, TildeAmp, TildeBar, TildeCaret, CaretTilde}
use Rattle.bb_parse.specs.Symbols.{Symbol, Identifier, SizedNumber, PlainNumber, Sign}
use Rattle.bb_parse.specs.Lists.{Rule, IsList}

-- a net, one bit of it, or some of its bits
abbrev pub IsSelect : Rule Expression
IsSelect ts (Net name) rest = ts ≡ Identifier name ∷ rest
IsSelect ts (Bit name i) rest = ts ≡ Identifier name ∷ Sign LeftSquare ∷ PlainNumber i ∷ Sign RightSquare ∷ rest
IsSelect ts (Part name i j) rest = ts ≡ Identifier name ∷ Sign LeftSquare ∷ PlainNumber i ∷ Sign Colon ∷ PlainNumber j ∷ Sign RightSquare ∷ rest
IsSelect ts _ rest = ⊥

pub data IsPrimary (inner : Rule Expression) (ts : List Symbol) (e : Expression) (rest : List Symbol) : Type 0 where
  select : IsSelect ts e rest → IsPrimary inner ts e rest
  sized : (bits : List Bool) → ts ≡ SizedNumber bits ∷ rest → e ≡ Sized bits → IsPrimary inner ts e rest
  plain : (n : ℕ) → ts ≡ PlainNumber n ∷ rest → e ≡ Plain n → IsPrimary inner ts e rest
  round : (a : List Symbol) → ts ≡ Sign LeftRound ∷ a → inner a e (Sign RightRound ∷ rest) → IsPrimary inner ts e rest
  concat : (all : List Expression) (a : List Symbol) → ts ≡ Sign LeftBrace ∷ a → IsList inner a all (Sign RightBrace ∷ rest) → e ≡ Concat (listed_parts all)
      → IsPrimary inner ts e rest
  repeat : (k : ℕ) (all : List Expression) (a : List Symbol) → ts ≡ Sign LeftBrace ∷ PlainNumber k ∷ Sign LeftBrace ∷ a
      → IsList inner a all (Sign RightBrace ∷ Sign RightBrace ∷ rest) → e ≡ Repeat k (listed_parts all) → IsPrimary inner ts e rest

-- a run of signs ~ and their number
abbrev pub IsSigns : ℕ → List Symbol → List Symbol → Type 0
IsSigns zero ts rest = ts ≡ rest
IsSigns (suc k) ts rest = (a : List Symbol) × (ts ≡ Sign Tilde ∷ a) × IsSigns k a rest

-- a run of signs before an expression; an empty one leaves it as it is
abbrev pub with_signs : ℕ → Expression → Expression
with_signs zero e = e
with_signs (suc k) e = Not (suc k) e

-- a run of ~, which may be empty, before what is of the rule
abbrev pub IsNegated : Rule Expression → Rule Expression
IsNegated is ts e rest = (k : ℕ) × (a : List Symbol) × (x : Expression) × IsSigns k ts a × is a x rest × (e ≡ with_signs k x)

-- the operator that a mark is before one operand, but for ~ (5.1.9 and 5.1.11)
abbrev pub on_one : Mark → Option FoldOp
on_one Bang = Some folds.None
on_one Amp = Some folds.All
on_one TildeAmp = Some folds.NotAll
on_one Bar = Some folds.Any
on_one TildeBar = Some folds.NotAny
on_one Caret = Some folds.Odd
on_one TildeCaret = Some folds.NotOdd
on_one CaretTilde = Some folds.NotOdd
on_one _ = None

-- a primary, or such an operator before one
abbrev pub IsFold : Rule Expression → Rule Expression
IsFold inner ts e rest =
    IsPrimary inner ts e rest
    ⊎ ((mark : Mark) × (op : FoldOp) × (a : List Symbol) × (x : Expression) × (ts ≡ Sign mark ∷ a) × (on_one mark ≡ Some op) × IsNegated (IsPrimary inner) a x rest × (e ≡ Fold op x))

-- a primary, at most one such operator before it, and ~ before both
abbrev pub IsUnary : Rule Expression → Rule Expression
IsUnary inner = IsNegated (IsFold inner)

-- the operator on bits that a mark is between two operands (5.1.10)
abbrev pub bit_operator_of : Mark → Option Op
bit_operator_of Amp = Some bits.And
bit_operator_of Caret = Some bits.Xor
bit_operator_of TildeCaret = Some bits.Xnor
bit_operator_of CaretTilde = Some bits.Xnor
bit_operator_of Bar = Some bits.Or
bit_operator_of _ = None

-- its row of table 5-4
abbrev pub bit_row : Op → ℕ
bit_row bits.And = 4
bit_row bits.Xor = 5
bit_row bits.Xnor = 5
bit_row bits.Or = 6

-- the operator on words that a mark is between two operands (5.1.5, 5.1.7 to 5.1.9 and 5.1.12); its row is level_of bb_ast
abbrev pub on_words : Mark → Option WordOp
on_words Plus = Some words.Plus
on_words Minus = Some words.Minus
on_words LessLess = Some words.Left
on_words GreaterGreater = Some words.Right
on_words Less = Some words.Less
on_words LessEqual = Some words.LessEqual
on_words Greater = Some words.Greater
on_words GreaterEqual = Some words.GreaterEqual
on_words EqualEqual = Some words.Equal
on_words BangEqual = Some words.NotEqual
on_words AmpAmp = Some words.Both
on_words BarBar = Some words.Either
on_words _ = None

-- an operator, where it is of the row
abbrev pub of_row : {O : Type 0} → (O → ℕ) → ℕ → Option O → Option O
of_row row n None = None
of_row row n (Some op) = if row op == n then Some op else None

-- the operator of the row that a mark is
abbrev pub bit_operator : ℕ → Mark → Option Op
bit_operator n mark = of_row bit_row n (bit_operator_of mark)

abbrev pub word_operator : ℕ → Mark → Option WordOp
word_operator n mark = of_row level_of n (on_words mark)

-- any number of an operator and its right operand
abbrev pub IsOperands : {O : Type 0} → (Mark → Option O) → Rule Expression → Rule (List (O × Expression))
IsOperands operator operand ts [] rest = ts ≡ rest
IsOperands operator operand ts (x ∷ xs) rest =
    (mark : Mark) × (a b : List Symbol) × (ts ≡ Sign mark ∷ a) × (operator mark ≡ Some x.0) × operand a x.1 b × IsOperands operator operand b xs rest

-- a chain of one operand is that operand
abbrev pub chain_expression : Expression → List (Op × Expression) → Expression
chain_expression e [] = e
chain_expression e (x ∷ xs) = Chain e (operands (x ∷ xs))

abbrev pub worded : Expression → List (WordOp × Expression) → Expression
worded e [] = e
worded e (x ∷ xs) = Words e (word_operands (x ∷ xs))

-- an operand, and operators with their right operands, from which the chain is made
abbrev pub IsChain : {O : Type 0} → (Mark → Option O) → (Expression → List (O × Expression) → Expression) → Rule Expression → Rule Expression
IsChain {O} operator made operand ts e rest =
    (x : Expression) × (xs : List (O × Expression)) × (a : List Symbol) × operand ts x a × IsOperands operator operand a xs rest × (e ≡ made x xs)

-- rows 4 to 6 are of operators on bits, the others of operators on words
abbrev pub is_bitwise : ℕ → Bool
is_bitwise n = n == 4 || n == 5 || n == 6

-- a chain of the row, where this is an operand of it
abbrev pub IsOperatorChain : ℕ → Rule Expression → Rule Expression
IsOperatorChain n operand ts e rest = MatchBool (is_bitwise n) (IsChain (bit_operator n) chain_expression operand ts e rest) (IsChain (word_operator n) worded operand ts e rest)

-- level 0 is a unary, and level n + 1 a chain of level n by row n
abbrev pub IsLevel : ℕ → Rule Expression → Rule Expression
IsLevel zero inner = IsUnary inner
IsLevel (suc n) inner = IsOperatorChain n (IsLevel n inner)

-- a chain of the last row: what a condition and a last branch may be
abbrev pub IsLor : Rule Expression → Rule Expression
IsLor inner = IsLevel 9 inner

-- conditions, each with its value, and the last branch
abbrev pub IsArms : Rule Expression → List Symbol → List (Expression × Expression) → Expression → List Symbol → Type 0
IsArms inner ts [] last rest = IsLor inner ts last rest
IsArms inner ts (x ∷ xs) last rest =
    (a b : List Symbol) × IsLor inner ts x.0 (Sign Query ∷ a) × inner a x.1 (Sign Colon ∷ b) × IsArms inner b xs last rest

-- a conditional without a condition is its last branch
abbrev pub conditional : List (Expression × Expression) → Expression → Expression
conditional [] last = last
conditional (x ∷ xs) last = Cond (arms (x ∷ xs)) last

-- an expression in which brackets and conditionals nest to less than depth levels
abbrev pub IsExpr : ℕ → Rule Expression
IsExpr zero ts e rest = ⊥
IsExpr (suc n) ts e rest = (xs : List (Expression × Expression)) × (last : Expression) × IsArms (IsExpr n) ts xs last rest × (e ≡ conditional xs last)

-- what may be assigned: a net, some bits of one, or such parts side by side
abbrev pub IsLval : ℕ → Rule Expression
IsLval zero ts e rest = ⊥
IsLval (suc n) ts e rest = IsSelect ts e rest ⊎ ((all : List Expression) × (a : List Symbol) × (ts ≡ Sign LeftBrace ∷ a) × IsList (IsLval n) a all (Sign RightBrace ∷ rest) × (e ≡ Concat (listed_parts all)))
