use Rattle.bb_readback.proofs.Counts.{filled_designs_are_counted}
use Rattle.bb_readback.proofs.laws.filled_designs_are_counted.Goals as goal

pub returns : goal.returns
returns c =
    filled_designs_are_counted c.nets_are_driven_once.ensures c.words_are_nets.ensures c.words_are_of_netlist.ensures c.words_are_apart.ensures c.net_names_differ.ensures
    c.filled_modules_are_sound.ensures c.filled_designs_are_named_the_same.ensures c.sound_bits_are_there.ensures
