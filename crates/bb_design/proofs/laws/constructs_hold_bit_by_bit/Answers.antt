use Rattle.bb_design.proofs.BitByBit.{bit_by_bit}
use Rattle.bb_design.proofs.laws.constructs_hold_bit_by_bit.Goals as goal

pub returns : goal.returns
returns c = bit_by_bit c.values_have_width.ensures c.made_has_value.ensures c.written_bits_are_value.ensures c.number_is_below.ensures
