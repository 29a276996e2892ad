use Rattle.bb_subst.proofs.CellCosts.{costs_are_few}
use Rattle.bb_subst.proofs.filling.costs_are_few.Goals as goal

pub returns : goal.returns
returns c = costs_are_few
