use Rattle.bb_care.proofs.ConstrainedBits.{constrained_pairs_are_right}
use Rattle.bb_care.proofs.laws.constrained_pairs_are_right.Goals as goal

pub returns : goal.returns
returns c = constrained_pairs_are_right c.occurrences_keep_bits.ensures c.value_exists.ensures
