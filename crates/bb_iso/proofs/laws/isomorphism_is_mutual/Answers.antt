use Rattle.bb_iso.proofs.IsomorphicCells.{isomorphism_is_mutual}
use Rattle.bb_iso.proofs.laws.isomorphism_is_mutual.Goals as goal

pub returns : goal.returns
returns c = isomorphism_is_mutual
