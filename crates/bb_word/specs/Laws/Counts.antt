-- How many cells the circuits make.
use Rattle.std.specs.Prelude.{◌≡◌, List, length}
use Rattle.bb_ast.specs.declared.operators.WordOp.{WordOp}
use Rattle.bb_ast.specs.declared.operators.FoldOp.{FoldOp}
use Rattle.bb_word.specs.Laws.Formulas.{Formula, formulas}
use Rattle.bb_word.specs.Words.{word_circuit, word_cells, HaveOneWidth}
use Rattle.bb_word.specs.Folds.{fold_circuit, fold_cells}

abbrev pub WordsAreCounted : Type 0
WordsAreCounted = (op : WordOp) (xs ys : List Formula) → HaveOneWidth op (length xs) (length ys) → length (word_circuit formulas op xs ys).cells ≡ word_cells op (length xs) (length ys)

abbrev pub FoldsAreCounted : Type 0
FoldsAreCounted = (op : FoldOp) (xs : List Formula) → length (fold_circuit formulas op xs).cells ≡ fold_cells op (length xs)
