use Rattle.bb_fill.proofs.NetlistWords.{words_are_of_netlist}
use Rattle.bb_fill.proofs.laws.words_are_of_netlist.Goals as goal

pub returns : goal.returns
returns c = words_are_of_netlist c.words_are_nets.ensures
