use Rattle.bb_word.specs.Laws.Formulas.{formulas}
use Rattle.bb_word.specs.Gates.{bits}
use Rattle.bb_word.specs.Laws.MapLaws.{word_map, fold_map}
use Rattle.bb_word.proofs.laws.circuits_are_mapped.Goals as goal

pub returns-clause-words : goal.returns-clause-words
returns-clause-words c f m = word_map formulas bits f m

pub returns-clause-folds : goal.returns-clause-folds
returns-clause-folds c f m = fold_map formulas bits f m
