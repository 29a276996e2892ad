use Rattle.bb_implements.proofs.DependenceWalks.{lists_without_walks}
use Rattle.bb_implements.proofs.loop_laws.lists_without_walks.Goals as goal

pub returns : goal.returns
returns c = lists_without_walks c.laws_of_designs.ensures
