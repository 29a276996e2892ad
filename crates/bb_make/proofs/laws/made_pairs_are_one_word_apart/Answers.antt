use Rattle.bb_make.proofs.Halves.{one_word_apart}
use Rattle.bb_make.proofs.laws.made_pairs_are_one_word_apart.Goals as goal

pub returns : goal.returns
returns c = one_word_apart
