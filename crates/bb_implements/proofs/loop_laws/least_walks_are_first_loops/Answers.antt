use Rattle.bb_implements.proofs.FirstLoops.{least_walks_are_first_loops}
use Rattle.bb_implements.proofs.loop_laws.least_walks_are_first_loops.Goals as goal

pub returns : goal.returns
returns c = least_walks_are_first_loops c.laws_of_designs.ensures
