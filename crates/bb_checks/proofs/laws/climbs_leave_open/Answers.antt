use Rattle.bb_checks.proofs.OpenLaw.{climbs_leave_open}
use Rattle.bb_checks.proofs.laws.climbs_leave_open.Goals as goal

pub returns : goal.returns
returns c = climbs_leave_open
