use Rattle.bb_subst.proofs.SomeFilled.{filled_exist}
use Rattle.bb_subst.proofs.laws.filled_exist.Goals as goal

pub returns : goal.returns
returns c = filled_exist
