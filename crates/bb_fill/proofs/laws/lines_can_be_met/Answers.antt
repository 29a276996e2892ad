use Rattle.bb_fill.proofs.SomeBits.{lines_can_be_met}
use Rattle.bb_fill.proofs.laws.lines_can_be_met.Goals as goal

pub returns : goal.returns
returns c = lines_can_be_met c.trees_choose.ensures c.value_exists.ensures
