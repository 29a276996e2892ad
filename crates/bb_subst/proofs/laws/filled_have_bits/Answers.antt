use Rattle.bb_subst.proofs.FilledNets.{filled_have_bits}
use Rattle.bb_subst.proofs.laws.filled_have_bits.Goals as goal

pub returns : goal.returns
returns c = filled_have_bits c.occurrences_keep_bits.ensures c.trees_choose.ensures c.number_is_below.ensures
