use Rattle.bb_word.proofs.FoldSteps.{first_there}
use Rattle.bb_word.proofs.folds.add_inverted.Goals as goal

pub add_complement-requires-clause-there : goal.add_complement-requires-clause-there
add_complement-requires-clause-there c = first_there _ _ c.in_ok-place.ensures.made.there
