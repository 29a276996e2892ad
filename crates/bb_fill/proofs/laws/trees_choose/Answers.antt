use Rattle.bb_fill.proofs.TreeLaws.{trees_choose}
use Rattle.bb_fill.proofs.laws.trees_choose.Goals as goal

pub returns : goal.returns
returns c = trees_choose c.number_doubles.ensures c.number_is_below.ensures
