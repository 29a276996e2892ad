use Rattle.bb_implements.proofs.PrintableNets.{implementing_nets_are_printable}
use Rattle.bb_implements.proofs.list_laws.implementing_nets_are_printable.Goals as goal

pub returns : goal.returns
returns c = implementing_nets_are_printable c.laws_of_designs.ensures
