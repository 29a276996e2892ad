use Rattle.bb_design.proofs.WrittenValue.{written_bits_are_value}
use Rattle.bb_design.proofs.laws.written_bits_are_value.Goals as goal

pub returns : goal.returns
returns c = written_bits_are_value c.values_have_width.ensures
