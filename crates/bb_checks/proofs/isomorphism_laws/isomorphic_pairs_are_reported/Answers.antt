use Rattle.bb_checks.proofs.IsomorphicReported.{isomorphic_pairs_are_reported}
use Rattle.bb_checks.proofs.isomorphism_laws.isomorphic_pairs_are_reported.Goals as goal

pub returns : goal.returns
returns c = isomorphic_pairs_are_reported c.laws_below.ensures
