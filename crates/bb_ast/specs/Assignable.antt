-- What may be assigned (IEEE 1364-2005, A.8.5, in a profile): a net, one bit or some bits of a net, or such things side
-- by side.
use Rattle.std.specs.Prelude.{Bool, true, false}
use Rattle.std.specs.List.{list_all}
use Rattle.bb_ast.specs.Syntax.{Expression}
use Rattle.bb_ast.specs.Folds.{Cases, fold_expression}

abbrev pub assigning : Cases Bool Bool
assigning = record {
  net = λ n. true;
  bit = λ n i. true;
  part = λ n i j. true;
  sized = λ bits. false;
  plain = λ n. false;
  not = λ k e. false;
  reduce = λ op e. false;
  chain = λ e rest. false;
  words = λ e rest. false;
  cond = λ all last. false;
  concat = λ all. list_all (λ e. e) all;
  repeat = λ k all. false;
}

abbrev pub is_assignable : Expression → Bool
is_assignable = fold_expression assigning
