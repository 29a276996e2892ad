use Rattle.bb_subst.proofs.DistinguishingVectors.{distinguishing_vectors_are_distinct}
use Rattle.bb_subst.proofs.laws.distinguishing_vectors_are_distinct.Goals as goal

pub returns : goal.returns
returns c = distinguishing_vectors_are_distinct
