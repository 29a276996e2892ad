use Rattle.bb_checks.proofs.ReportedLaw.{climbs_are_reported}
use Rattle.bb_checks.proofs.laws.climbs_are_reported.Goals as goal

pub returns : goal.returns
returns c = climbs_are_reported c.kind_laws.ensures c.patterns_are_vectors.ensures
