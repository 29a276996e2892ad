use Rattle.bb_match.proofs.CarePairs.{pairs_are_kept}
use Rattle.bb_match.proofs.laws.pairs_are_kept.Goals as goal

pub returns : goal.returns
returns c = pairs_are_kept c.pairs_are_one.ensures c.fitting_have_kept_pair.ensures
