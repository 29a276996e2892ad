use Rattle.bb_implements.proofs.CellCounts.{nets_are_no_larger}
use Rattle.bb_implements.proofs.list_laws.nets_are_no_larger.Goals as goal

pub returns : goal.returns
returns c = nets_are_no_larger c.laws_of_designs.ensures
