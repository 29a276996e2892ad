use Rattle.bb_fill.proofs.RegisterBits.{registers_take_bits}
use Rattle.bb_fill.proofs.laws.registers_take_bits.Goals as goal

pub returns : goal.returns
returns c = registers_take_bits c.lines_have_bits.ensures
