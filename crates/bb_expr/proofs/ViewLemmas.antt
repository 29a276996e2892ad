-- What an expression of the code says, one form after another.
use Rattle.std.proofs.Common.{◌≡◌, ℕ, Bool, List, map, refl, Box, Vec, Global}
use Rattle.bb_ast.specs.declared.expr.Op.{Op}
use Rattle.bb_ast.specs.declared.operators.WordOp.{WordOp}
use Rattle.bb_ast.specs.declared.operators.FoldOp.{FoldOp}
use Rattle.bb_ast.specs.declared.expr.Expr.{Expr}
use Rattle.bb_ast.specs.declared.expr.Expr as of
use Rattle.bb_ast.specs.declared.expr.Expr.TheFolds.{fold_out-Expr}
use Rattle.bb_ast.specs.declared.expr.Expr.TheVariants.{outs-Net, outs-Bit, outs-Part, outs-Sized, outs-Plain, outs-Not, outs-Fold, outs-Chain, outs-Words, outs-Cond, outs-Concat, outs-Repeat}
use Rattle.bb_ast.specs.Syntax.{Expression, Net, Bit, Part, Sized, Plain, Not, Fold, Chain, Words, Cond, Concat, Repeat, operands, word_operands, arms, listed_parts}
use Rattle.bb_ast.specs.Inside.Views.{layer, expression, operand_view, arm_view}

pub expression-not : (e : Expr) (k : ℕ) (operand : Box Expr Global) → e ≡ of.Not k operand → expression e ≡ Not k (expression operand.value)
expression-not e k operand is = rw (fold_out-Expr Expression layer e, is, outs-Not k operand) refl

pub expression-chain : (e : Expr) (first : Box Expr Global) (rest : Vec (Op × Expr) Global) → e ≡ of.Chain first rest → expression e ≡ Chain (expression first.value) (operands (map operand_view rest.items))
expression-chain e first rest is = rw (fold_out-Expr Expression layer e, is, outs-Chain first rest) refl

pub expression-fold : (e : Expr) (op : FoldOp) (operand : Box Expr Global) → e ≡ of.Fold op operand → expression e ≡ Fold op (expression operand.value)
expression-fold e op operand is = rw (fold_out-Expr Expression layer e, is, outs-Fold op operand) refl

pub expression-words : (e : Expr) (first : Box Expr Global) (rest : Vec (WordOp × Expr) Global) → e ≡ of.Words first rest → expression e ≡ Words (expression first.value) (word_operands (map operand_view rest.items))
expression-words e first rest is = rw (fold_out-Expr Expression layer e, is, outs-Words first rest) refl

pub expression-cond : (e : Expr) (all : Vec (Expr × Expr) Global) (last : Box Expr Global) → e ≡ of.Cond all last → expression e ≡ Cond (arms (map arm_view all.items)) (expression last.value)
expression-cond e all last is = rw (fold_out-Expr Expression layer e, is, outs-Cond all last) refl

pub expression-concat : (e : Expr) (all : Vec Expr Global) → e ≡ of.Concat all → expression e ≡ Concat (listed_parts (map expression all.items))
expression-concat e all is = rw (fold_out-Expr Expression layer e, is, outs-Concat all) refl

pub expression-repeat : (e : Expr) (k : ℕ) (all : Vec Expr Global) → e ≡ of.Repeat k all → expression e ≡ Repeat k (listed_parts (map expression all.items))
expression-repeat e k all is = rw (fold_out-Expr Expression layer e, is, outs-Repeat k all) refl

pub expression-net : (e : Expr) (n : List ℕ) → e ≡ of.Net n → expression e ≡ Net n
expression-net e n is = rw (fold_out-Expr Expression layer e, is, outs-Net n) refl

pub expression-bit : (e : Expr) (n : List ℕ) (i : ℕ) → e ≡ of.Bit n i → expression e ≡ Bit n i
expression-bit e n i is = rw (fold_out-Expr Expression layer e, is, outs-Bit n i) refl

pub expression-part : (e : Expr) (n : List ℕ) (i j : ℕ) → e ≡ of.Part n i j → expression e ≡ Part n i j
expression-part e n i j is = rw (fold_out-Expr Expression layer e, is, outs-Part n i j) refl

pub expression-sized : (e : Expr) (bits : Vec Bool Global) → e ≡ of.Sized bits → expression e ≡ Sized bits.items
expression-sized e bits is = rw (fold_out-Expr Expression layer e, is, outs-Sized bits) refl

pub expression-plain : (e : Expr) (n : ℕ) → e ≡ of.Plain n → expression e ≡ Plain n
expression-plain e n is = rw (fold_out-Expr Expression layer e, is, outs-Plain n) refl
