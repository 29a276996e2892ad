-- The names of nets in an expression, in text order, also those of which bits are selected.
use Rattle.std.specs.Prelude.{ℕ, List, [], ◌∷◌, ◌++◌}
use Rattle.std.specs.List.{flat_map}
use Rattle.bb_ast.specs.Syntax.{Expression}
use Rattle.bb_ast.specs.Folds.{Cases, fold_expression}

abbrev pub naming : Cases (List (List ℕ)) (List (List ℕ))
naming = record {
  net = λ n. n ∷ [];
  bit = λ n i. n ∷ [];
  part = λ n i j. n ∷ [];
  sized = λ bits. [];
  plain = λ n. [];
  not = λ k e. e;
  reduce = λ op e. e;
  chain = λ e rest. e ++ flat_map (λ x. x.1) rest;
  words = λ e rest. e ++ flat_map (λ x. x.1) rest;
  cond = λ all last. flat_map (λ x. x.0 ++ x.1) all ++ last;
  concat = λ all. flat_map (λ e. e) all;
  repeat = λ k all. flat_map (λ e. e) all;
}

-- the names of an expression, each as often as it is used there
abbrev pub names_in : Expression → List (List ℕ)
names_in = fold_expression naming
