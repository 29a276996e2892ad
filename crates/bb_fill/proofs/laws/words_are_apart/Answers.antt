use Rattle.bb_fill.proofs.WordLaws.{words_are_apart}
use Rattle.bb_fill.proofs.laws.words_are_apart.Goals as goal

pub returns : goal.returns
returns c = words_are_apart
