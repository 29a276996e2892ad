use Rattle.bb_checks.proofs.OpenLaw.{staying_open_is_reported}
use Rattle.bb_checks.proofs.laws.staying_open_is_reported.Goals as goal

pub returns : goal.returns
returns c = staying_open_is_reported
