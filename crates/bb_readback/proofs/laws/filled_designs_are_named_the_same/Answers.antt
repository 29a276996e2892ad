use Rattle.bb_readback.proofs.Called.{filled_designs_are_named_the_same}
use Rattle.bb_readback.proofs.laws.filled_designs_are_named_the_same.Goals as goal

pub returns : goal.returns
returns c =
    let designs = c.laws_of_designs.ensures in
    filled_designs_are_named_the_same c.filled_modules_are_sound.ensures c.sound_bits_are_there.ensures designs.distinguished designs.stored_register c.net_names_differ.ensures
