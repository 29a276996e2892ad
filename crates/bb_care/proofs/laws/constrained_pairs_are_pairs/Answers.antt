use Rattle.bb_care.proofs.ConstrainedPairs.{constrained_pairs_are_pairs}
use Rattle.bb_care.proofs.laws.constrained_pairs_are_pairs.Goals as goal

pub returns : goal.returns
returns c = constrained_pairs_are_pairs
