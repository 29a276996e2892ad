use Rattle.bb_implements.proofs.SomeNets.{implementing_nets_exist}
use Rattle.bb_implements.proofs.list_laws.implementing_nets_exist.Goals as goal

pub returns : goal.returns
returns c = implementing_nets_exist c.laws_of_designs.ensures c.lists_exist.ensures c.lists_are_loose.ensures c.order_exists.ensures
