use Rattle.bb_subst.proofs.DistinguishingVectors.{vectors_are_few}
use Rattle.bb_subst.proofs.laws.vectors_are_few.Goals as goal

pub returns : goal.returns
returns c = vectors_are_few c.number_is_below.ensures c.number_spelled_once.ensures
