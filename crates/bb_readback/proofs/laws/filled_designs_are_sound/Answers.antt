use Rattle.bb_readback.proofs.Complete.{filled_designs_are_sound}
use Rattle.bb_readback.proofs.laws.filled_designs_are_sound.Goals as goal

pub returns : goal.returns
returns c =
    filled_designs_are_sound c.nets_are_driven_once.ensures c.words_are_nets.ensures c.words_are_of_netlist.ensures c.words_are_apart.ensures
    c.lines_read_what_is_driven.ensures c.net_names_differ.ensures c.laws_of_designs.ensures.distinguished
