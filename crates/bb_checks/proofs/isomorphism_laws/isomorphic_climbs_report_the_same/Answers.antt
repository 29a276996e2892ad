use Rattle.bb_checks.proofs.IsomorphicClimbs.{isomorphic_climbs_report_the_same}
use Rattle.bb_checks.proofs.isomorphism_laws.isomorphic_climbs_report_the_same.Goals as goal

pub returns : goal.returns
returns c = isomorphic_climbs_report_the_same c.isomorphic_pairs_have_one_report.ensures.one
