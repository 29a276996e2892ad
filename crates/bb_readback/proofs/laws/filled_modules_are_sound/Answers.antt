use Rattle.bb_readback.proofs.Sound.{filled_modules_are_sound}
use Rattle.bb_readback.proofs.laws.filled_modules_are_sound.Goals as goal

pub returns : goal.returns
returns c = filled_modules_are_sound c.nets_are_driven_once.ensures c.words_are_nets.ensures c.words_are_of_netlist.ensures c.words_are_apart.ensures
