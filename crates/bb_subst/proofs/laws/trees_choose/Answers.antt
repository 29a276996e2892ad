use Rattle.bb_subst.proofs.ChoiceTrees.{trees_choose}
use Rattle.bb_subst.proofs.laws.trees_choose.Goals as goal

pub returns : goal.returns
returns c = trees_choose c.value_exists.ensures c.number_is_below.ensures
