-- Reading the chains of the levels from the tightest on, row by row.
use Rattle.std.proofs.Common.{◌≡◌, ℕ, zero, suc, ◌+◌, List, [], Option, Some, None, Bool, true, false, refl, ap, ◌∙◌, arith, length, if◌then◌else◌}
use Rattle.bb_ast.specs.Syntax.{Expression}
use Rattle.bb_lex.specs.declared.mark.Mark.{Mark}
use Rattle.bb_parse.specs.Symbols.{Symbol}
use Rattle.bb_parse.specs.Expressions.{bit_operator, word_operator, chain_expression, worded, is_bitwise}
use Rattle.bb_parse.specs.Inside.Steps.{Read}
use Rattle.bb_parse.specs.Inside.Expressions.{next_operator, begins_operator, read_operands, chain_from, read_row, read_unary, read_level}
use Rattle.bb_parse.proofs.OperatorMarks.{none_begins}

no_operands : {O : Type 0} (operator : Mark → Option O) (operand : List Symbol → Read Expression) (n : ℕ) (ts : List Symbol) → next_operator operator ts ≡ None
    → read_operands operator operand n ts ≡ Some ([], ts)
no_operands operator operand zero ts h = refl
no_operands operator operand (suc n) ts h = rw h refl

either_same : {A : Type 0} (b : Bool) (x y z : A) → x ≡ z → y ≡ z → (if b then x else y) ≡ z
either_same true x y z h k = h
either_same false x y z h k = k

-- where no operator comes next, an operand is the chain
row_alone : (n : ℕ) (operand : List Symbol → Read Expression) (x : Expression) (ts : List Symbol) → begins_operator ts ≡ false → read_row n operand x ts ≡ Some (x, ts)
unfolding read_row
row_alone n operand x ts h =
    let none = none_begins n ts h in
    either_same (is_bitwise n) _ _ (Some (x, ts))
    (ap (chain_from chain_expression x) (no_operands (bit_operator n) operand (length ts) ts none.0))
    (ap (chain_from worded x) (no_operands (word_operator n) operand (length ts) ts none.1))

pub level_zero : (inner : List Symbol → Read Expression) (ts : List Symbol) → read_level 0 inner ts ≡ read_unary inner ts
unfolding read_level
level_zero inner ts = refl

module _ (inner : List Symbol → Read Expression) (all ts : List Symbol) where
  -- the next row
  level_on : (n : ℕ) (x : Expression) (read : Read Expression) → read_level n inner all ≡ Some (x, ts) → read_row n (read_level n inner) x ts ≡ read → read_level (suc n) inner all ≡ read
  unfolding read_level
  level_on n x read h k = rw h k

  pub level_next : (n : ℕ) (x : Expression) (read : Read Expression) → read_level n inner all ≡ Some (x, ts) → read_row n (read_level n inner) x ts ≡ read → read_level (n + 1) inner all ≡ read
  level_next n x read h k = let e : n + 1 ≡ suc n = omega arith in ap (λ m. read_level m inner all) e ∙ level_on n x read h k

  -- and all others, where no operator comes next
  pub level_alone : (x : Expression) (d n m : ℕ) → m ≡ n + d → read_level n inner all ≡ Some (x, ts) → begins_operator ts ≡ false → read_level m inner all ≡ Some (x, ts)
  level_alone x zero n m e h k = let same : m ≡ n = omega (arith, e) in ap (λ z. read_level z inner all) same ∙ h
  level_alone x (suc d) n zero e h k = absurd (omega (arith, e))
  level_alone x (suc d) n (suc m) e h k = level_on m x (Some (x, ts)) (level_alone x d n m (omega (arith, e)) h k) (row_alone m (read_level m inner) x ts k)

module _ (inner : List Symbol → Read Expression) (all : List Symbol) where
  none_on : (n : ℕ) → read_level n inner all ≡ None → read_level (suc n) inner all ≡ None
  unfolding read_level
  none_on n h = rw h refl

  -- what fails at a level fails at each above it
  pub level_none : (d n m : ℕ) → m ≡ n + d → read_level n inner all ≡ None → read_level m inner all ≡ None
  level_none zero n m e h = let same : m ≡ n = omega (arith, e) in ap (λ z. read_level z inner all) same ∙ h
  level_none (suc d) n zero e h = absurd (omega (arith, e))
  level_none (suc d) n (suc m) e h = none_on m (level_none d n m (omega (arith, e)) h)
