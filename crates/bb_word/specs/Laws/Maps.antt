-- Maps of gates go through circuits.
use Rattle.std.specs.Prelude.{◌≡◌, Bool, List, map}
use Rattle.bb_ast.specs.declared.operators.WordOp.{WordOp}
use Rattle.bb_ast.specs.declared.operators.FoldOp.{FoldOp}
use Rattle.bb_word.specs.Gates.{IsMap, mapped, bits}
use Rattle.bb_word.specs.Laws.Formulas.{Formula, formulas}
use Rattle.bb_word.specs.Words.{word_circuit}
use Rattle.bb_word.specs.Folds.{fold_circuit}

-- from formulas to bits
abbrev pub WordsAreMapped : Type 0
WordsAreMapped = (f : Formula → Bool) → IsMap formulas bits f → (op : WordOp) (xs ys : List Formula)
    → mapped f (word_circuit formulas op xs ys) ≡ word_circuit bits op (map f xs) (map f ys)

abbrev pub FoldsAreMapped : Type 0
FoldsAreMapped = (f : Formula → Bool) → IsMap formulas bits f → (op : FoldOp) (xs : List Formula)
    → mapped f (fold_circuit formulas op xs) ≡ fold_circuit bits op (map f xs)
