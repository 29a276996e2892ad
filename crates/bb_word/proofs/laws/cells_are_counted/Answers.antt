use Rattle.bb_word.specs.Laws.Formulas.{formulas}
use Rattle.bb_word.specs.Laws.CountLaws.{word_count, fold_count}
use Rattle.bb_word.proofs.laws.cells_are_counted.Goals as goal

pub returns-clause-words : goal.returns-clause-words
returns-clause-words c = word_count formulas

pub returns-clause-folds : goal.returns-clause-folds
returns-clause-folds c = fold_count formulas
