use Rattle.bb_word.proofs.FoldLemmas.{fold_is}
use Rattle.bb_word.proofs.laws.folds_give_bits.Goals as goal

pub returns : goal.returns
returns c = fold_is
