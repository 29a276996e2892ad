use Rattle.bb_checks.proofs.OpenLaw.{left_open_stays_open, staying_open_is_left_open}
use Rattle.bb_checks.proofs.laws.left_open_stays_open.Goals as goal

pub returns : goal.returns
returns c = record { left = staying_open_is_left_open; stays = left_open_stays_open }
