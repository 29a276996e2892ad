use Rattle.bb_fill.proofs.DrivenOnce.{nets_are_driven_once}
use Rattle.bb_fill.proofs.laws.nets_are_driven_once.Goals as goal

pub returns : goal.returns
returns c = nets_are_driven_once
