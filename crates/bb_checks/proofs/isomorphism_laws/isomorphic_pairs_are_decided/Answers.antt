use Rattle.bb_checks.proofs.IsomorphicChecks.{isomorphic_pairs_are_decided}
use Rattle.bb_checks.proofs.isomorphism_laws.isomorphic_pairs_are_decided.Goals as goal

pub returns : goal.returns
returns c = isomorphic_pairs_are_decided c.laws_below.ensures
