use Rattle.bb_checks.proofs.IsomorphicClimbs.{isomorphic_pairs_never_clash}
use Rattle.bb_checks.proofs.isomorphism_laws.isomorphic_pairs_never_clash.Goals as goal

pub returns : goal.returns
returns c = isomorphic_pairs_never_clash c.laws_below.ensures c.errors_exclude_tables.ensures c.repairs_make_equivalent.ensures
