-- The cases of a recursion see the operands of a level of operators, the arms of a conditional and the parts of a
-- concatenation one by one, in their order. The laws hold at every type of result, also at functions, which are no type
-- of the code: so they are proved here, and the functions of the crate have them as contracts for every two types of
-- the code.
use Rattle.std.specs.Prelude.{◌≡◌, List, [], ◌∷◌, map}
use Rattle.std.proofs.Common.{refl, ap}
use Rattle.bb_ast.specs.declared.expr.Op.{Op}
use Rattle.bb_ast.specs.declared.operators.WordOp.{WordOp}
use Rattle.bb_ast.specs.Syntax.{Expression, operands, word_operands, arms, listed_parts}
use Rattle.bb_ast.specs.Folds.{Cases, of_operands, of_words, of_arms, of_parts, operand_by}

abbrev pub SeesOperands : Type 0 → Type 0 → Type 0
SeesOperands C A = (seen : Expression → A → C) (cases : Cases C A) (xs : List (Op × Expression))
    → of_operands seen cases (operands xs) ≡ map (λ x. (x.0, operand_by seen cases x.1)) xs

abbrev pub SeesWords : Type 0 → Type 0 → Type 0
SeesWords C A = (seen : Expression → A → C) (cases : Cases C A) (xs : List (WordOp × Expression))
    → of_words seen cases (word_operands xs) ≡ map (λ x. (x.0, operand_by seen cases x.1)) xs

abbrev pub SeesArms : Type 0 → Type 0 → Type 0
SeesArms C A = (seen : Expression → A → C) (cases : Cases C A) (xs : List (Expression × Expression))
    → of_arms seen cases (arms xs) ≡ map (λ x. (operand_by seen cases x.0, operand_by seen cases x.1)) xs

abbrev pub SeesParts : Type 0 → Type 0 → Type 0
SeesParts C A = (seen : Expression → A → C) (cases : Cases C A) (xs : List Expression)
    → of_parts seen cases (listed_parts xs) ≡ map (operand_by seen cases) xs

pub sees_operands : {C A : Type 0} → SeesOperands C A
sees_operands seen cases [] = refl
sees_operands seen cases (x ∷ xs) = ap (λ r. (x.0, operand_by seen cases x.1) ∷ r) (sees_operands seen cases xs)

pub sees_words : {C A : Type 0} → SeesWords C A
sees_words seen cases [] = refl
sees_words seen cases (x ∷ xs) = ap (λ r. (x.0, operand_by seen cases x.1) ∷ r) (sees_words seen cases xs)

pub sees_arms : {C A : Type 0} → SeesArms C A
sees_arms seen cases [] = refl
sees_arms seen cases (x ∷ xs) = ap (λ r. (operand_by seen cases x.0, operand_by seen cases x.1) ∷ r) (sees_arms seen cases xs)

pub sees_parts : {C A : Type 0} → SeesParts C A
sees_parts seen cases [] = refl
sees_parts seen cases (x ∷ xs) = ap (λ r. operand_by seen cases x ∷ r) (sees_parts seen cases xs)
