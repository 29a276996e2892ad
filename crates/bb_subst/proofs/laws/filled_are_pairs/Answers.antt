use Rattle.bb_subst.proofs.FilledNets.{filled_are_pairs}
use Rattle.bb_subst.proofs.laws.filled_are_pairs.Goals as goal

pub returns : goal.returns
returns c = filled_are_pairs c.kinds_may_differ.ensures.fit
