use Rattle.bb_readback.proofs.Outputs.{filled_designs_have_bits}
use Rattle.bb_readback.proofs.laws.filled_designs_have_bits.Goals as goal

pub returns : goal.returns
returns c =
    filled_designs_have_bits c.laws_of_designs.ensures c.filled_modules_are_sound.ensures c.filled_designs_are_named_the_same.ensures c.lines_have_bits.ensures
    c.registers_take_bits.ensures c.nets_are_driven_once.ensures
