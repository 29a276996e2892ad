-- Recursion over expressions, once for all. A definition by the form of an expression is a record with one case for
-- each form, which sees the results of the operands as plain lists, in text order.
use Rattle.std.specs.Prelude.{ℕ, List, [], ◌∷◌, Bool}
use Rattle.bb_ast.specs.declared.expr.Op.{Op}
use Rattle.bb_ast.specs.declared.operators.WordOp.{WordOp}
use Rattle.bb_ast.specs.declared.operators.FoldOp.{FoldOp}
use Rattle.bb_ast.specs.Syntax.{Expression, Net, Bit, Part, Sized, Plain, Not, Fold, Chain, Words, Cond, Concat, Repeat, Operands, no_operand, operand, WordOperands, no_word, word, Arms, no_arm, arm, Parts, no_part, part}

-- what an expression of each form gives, where each operand gave a C
pub record Cases (C A : Type 0) : Type 0 where
  pub net : List ℕ → A
  pub bit : List ℕ → ℕ → A
  pub part : List ℕ → ℕ → ℕ → A
  pub sized : List Bool → A
  pub plain : ℕ → A
  pub not : ℕ → C → A
  pub reduce : FoldOp → C → A
  pub chain : C → List (Op × C) → A
  pub words : C → List (WordOp × C) → A
  pub cond : List (C × C) → C → A
  pub concat : List C → A
  pub repeat : ℕ → List C → A

-- what an expression gives by the cases, which see an operand e with the result a as seen e a
abbrev mutual
  pub fold_by : {C A : Type 0} → (Expression → A → C) → Cases C A → Expression → A
  fold_by seen cases (Net n) = cases.net n
  fold_by seen cases (Bit n i) = cases.bit n i
  fold_by seen cases (Part n i j) = cases.part n i j
  fold_by seen cases (Sized bits) = cases.sized bits
  fold_by seen cases (Plain n) = cases.plain n
  fold_by seen cases (Not k e) = cases.not k (seen e (fold_by seen cases e))
  fold_by seen cases (Fold op e) = cases.reduce op (seen e (fold_by seen cases e))
  fold_by seen cases (Chain e rest) = cases.chain (seen e (fold_by seen cases e)) (of_operands seen cases rest)
  fold_by seen cases (Words e rest) = cases.words (seen e (fold_by seen cases e)) (of_words seen cases rest)
  fold_by seen cases (Cond all last) = cases.cond (of_arms seen cases all) (seen last (fold_by seen cases last))
  fold_by seen cases (Concat all) = cases.concat (of_parts seen cases all)
  fold_by seen cases (Repeat k all) = cases.repeat k (of_parts seen cases all)

  pub of_operands : {C A : Type 0} → (Expression → A → C) → Cases C A → Operands → List (Op × C)
  of_operands seen cases no_operand = []
  of_operands seen cases (operand op e rest) = (op, seen e (fold_by seen cases e)) ∷ of_operands seen cases rest

  pub of_words : {C A : Type 0} → (Expression → A → C) → Cases C A → WordOperands → List (WordOp × C)
  of_words seen cases no_word = []
  of_words seen cases (word op e rest) = (op, seen e (fold_by seen cases e)) ∷ of_words seen cases rest

  pub of_arms : {C A : Type 0} → (Expression → A → C) → Cases C A → Arms → List (C × C)
  of_arms seen cases no_arm = []
  of_arms seen cases (arm c e rest) = (seen c (fold_by seen cases c), seen e (fold_by seen cases e)) ∷ of_arms seen cases rest

  pub of_parts : {C A : Type 0} → (Expression → A → C) → Cases C A → Parts → List C
  of_parts seen cases no_part = []
  of_parts seen cases (part e rest) = seen e (fold_by seen cases e) ∷ of_parts seen cases rest

-- what an expression gives by cases that see the results of operands alone
abbrev pub fold_expression : {A : Type 0} → Cases A A → Expression → A
fold_expression = fold_by (λ e a. a)

-- what an operand is seen as
abbrev pub operand_by : {C A : Type 0} → (Expression → A → C) → Cases C A → Expression → C
operand_by seen cases e = seen e (fold_by seen cases e)
