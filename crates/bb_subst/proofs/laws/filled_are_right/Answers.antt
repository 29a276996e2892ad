use Rattle.bb_subst.proofs.FilledNets.{filled_are_right, filled_are_wrong}
use Rattle.bb_subst.proofs.laws.filled_are_right.Goals as goal

pub returns : goal.returns
returns c = record {
  right = filled_are_right c.occurrences_keep_bits.ensures c.trees_choose.ensures c.number_is_below.ensures;
  wrong = filled_are_wrong c.occurrences_keep_bits.ensures c.trees_choose.ensures c.number_is_below.ensures;
}
