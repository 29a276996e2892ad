use Rattle.bb_fill.proofs.LineBits.{lines_have_bits}
use Rattle.bb_fill.proofs.laws.lines_have_bits.Goals as goal

pub returns : goal.returns
returns c = lines_have_bits c.trees_choose.ensures c.value_is_unique.ensures
