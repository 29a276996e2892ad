-- Expressions whose value only grows by zeros in a wider context: no ~, no ~^, no sum or difference and no shift is
-- where the context's width counts. Parts with a width of their own, such as a condition, are not looked at. Of
-- operators on words the last one decides.
use Rattle.std.specs.Prelude.{Bool, true, false, fold, ◌&&◌}
use Rattle.std.specs.List.{list_all}
use Rattle.bb_ast.specs.declared.expr.Op.{Op}
use Rattle.bb_ast.specs.declared.expr.Op.TheVariants as ops
use Rattle.bb_ast.specs.declared.operators.WordOp.{WordOp}
use Rattle.bb_ast.specs.declared.operators.WordOp.TheVariants as words
use Rattle.bb_ast.specs.Syntax.{Expression}
use Rattle.bb_ast.specs.Folds.{Cases, fold_expression}

-- it gives 0 of two zeros
abbrev pub keeps_zero : Op → Bool
keeps_zero ops.And = true
keeps_zero ops.Or = true
keeps_zero ops.Xor = true
keeps_zero ops.Xnor = false

-- it gives one bit: a comparison or a truth of words
abbrev pub gives_one_bit : WordOp → Bool
gives_one_bit words.Plus = false
gives_one_bit words.Minus = false
gives_one_bit words.Left = false
gives_one_bit words.Right = false
gives_one_bit _ = true

abbrev pub steadying : Cases Bool Bool
steadying = record {
  net = λ n. true;
  bit = λ n i. true;
  part = λ n i j. true;
  sized = λ bits. true;
  plain = λ n. true;
  not = λ k e. false;
  reduce = λ op e. true;
  chain = λ e rest. e && list_all (λ x. keeps_zero x.0 && x.1) rest;
  words = λ e rest. fold (λ left x. gives_one_bit x.0) e rest;
  cond = λ all last. list_all (λ x. x.1) all && last;
  concat = λ all. true;
  repeat = λ k all. true;
}

abbrev pub is_steady : Expression → Bool
is_steady = fold_expression steadying
