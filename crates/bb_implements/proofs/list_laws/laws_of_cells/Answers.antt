use Rattle.bb_implements.proofs.ClockInputs.{clock_is, few_inputs, net_number, net_there}
use Rattle.bb_implements.proofs.CopyLoops.{read_places_are_read}
use Rattle.bb_implements.proofs.CopySteps.{copy_from, copy_to}
use Rattle.bb_implements.proofs.ListPrefixes.{prefix_fits}
use Rattle.bb_implements.proofs.ReadsHold.{read_holds}
use Rattle.bb_implements.proofs.list_laws.laws_of_cells.Goals as goal

pub returns : goal.returns
returns c = record {
  net_places = λ d lowering l list k b at. (net_number c.laws_of_designs.ensures d lowering l list k b at, net_there c.laws_of_designs.ensures d lowering l list k b at);
  nets_fit = prefix_fits;
  few_inputs = few_inputs c.laws_of_designs.ensures;
  copies = λ cells j k u. (copy_from cells j k u, λ is. copy_to cells j k u is.0 is.1);
  read_places = read_places_are_read c.laws_of_designs.ensures;
  read_bits = read_holds c.laws_of_designs.ensures;
  clocks = clock_is c.laws_of_designs.ensures;
}
