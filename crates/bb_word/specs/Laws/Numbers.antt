-- What the circuits give on bits. Here the first bit of a word is the most significant, so a circuit reads and gives
-- words in reverse.
use Rattle.std.specs.Prelude.{◌≡◌, Bool, List, [], ◌∷◌, length, reverse}
use Rattle.bb_bits.specs.Numbers.{number_of}
use Rattle.bb_ast.specs.declared.operators.WordOp.{WordOp}
use Rattle.bb_ast.specs.declared.operators.FoldOp.{FoldOp}
use Rattle.bb_word.specs.Gates.{bits}
use Rattle.bb_word.specs.Words.{word_circuit, HaveOneWidth}
use Rattle.bb_word.specs.Folds.{fold_circuit, fold_bit}
use Rattle.bb_word.specs.Meanings.{word_number, word_width, word_bits}

-- the result of an operator on two words
abbrev pub word_result : WordOp → List Bool → List Bool → List Bool
word_result op a b = reverse (word_circuit bits op (reverse a) (reverse b)).bits

-- it spells the number that the operator means
abbrev pub WordsSpellNumbers : Type 0
WordsSpellNumbers = (op : WordOp) (a b : List Bool) → HaveOneWidth op (length a) (length b) → number_of (word_result op a b) ≡ word_number op a b

-- so it is the bits of this number
abbrev pub WordsHaveBits : Type 0
WordsHaveBits = (op : WordOp) (a b : List Bool) → HaveOneWidth op (length a) (length b) → word_result op a b ≡ word_bits op a b

abbrev pub WordsHaveWidths : Type 0
WordsHaveWidths = (op : WordOp) (a b : List Bool) → HaveOneWidth op (length a) (length b) → length (word_result op a b) ≡ word_width op (length a)

-- a reduction gives its one bit
abbrev pub FoldsGiveBits : Type 0
FoldsGiveBits = (op : FoldOp) (a : List Bool) → (fold_circuit bits op (reverse a)).bits ≡ fold_bit op a ∷ []
