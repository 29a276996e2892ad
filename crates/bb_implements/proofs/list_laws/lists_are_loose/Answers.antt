use Rattle.bb_implements.proofs.LooseLists.{lists_are_loose}
use Rattle.bb_implements.proofs.list_laws.lists_are_loose.Goals as goal

pub returns : goal.returns
returns c = lists_are_loose c.laws_of_designs.ensures
