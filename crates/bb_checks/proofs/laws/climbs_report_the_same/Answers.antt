use Rattle.bb_checks.proofs.IsomorphicClimbs.{climbs_report_the_same}
use Rattle.bb_checks.proofs.laws.climbs_report_the_same.Goals as goal

pub returns : goal.returns
returns c = climbs_report_the_same c.isomorphic_climbs_report_the_same.ensures
