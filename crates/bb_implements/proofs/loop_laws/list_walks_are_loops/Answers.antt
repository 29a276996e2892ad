use Rattle.bb_implements.proofs.WalkLoops.{list_walks_are_loops}
use Rattle.bb_implements.proofs.loop_laws.list_walks_are_loops.Goals as goal

pub returns : goal.returns
returns c = list_walks_are_loops c.laws_of_designs.ensures
