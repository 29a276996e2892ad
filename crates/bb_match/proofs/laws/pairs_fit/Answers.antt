use Rattle.bb_match.proofs.CarePairs.{pairs_fit}
use Rattle.bb_match.proofs.laws.pairs_fit.Goals as goal

pub returns : goal.returns
returns c = pairs_fit
