use Rattle.bb_net.proofs.Rearranged.{new_net, is_netlist, is_rearranged}
use Rattle.bb_net.proofs.rearranging.rearranged_nets_exist.Goals as goal

pub returns : goal.returns
returns c = λ net numbers picks kept count below there.
    (new_net net kept numbers picks count below there, is_netlist net kept numbers picks count below there, is_rearranged net kept numbers picks count below there)
