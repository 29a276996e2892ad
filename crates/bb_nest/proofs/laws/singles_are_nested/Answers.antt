use Rattle.bb_nest.proofs.Singles.{singles_nested}
use Rattle.bb_nest.proofs.laws.singles_are_nested.Goals as goal

pub returns : goal.returns
returns c = singles_nested
