use Rattle.bb_design.proofs.TextLaws.{paths_are_called_apart}
use Rattle.bb_design.proofs.laws.paths_are_called_apart.Goals as goal

pub returns : goal.returns
returns c = paths_are_called_apart
