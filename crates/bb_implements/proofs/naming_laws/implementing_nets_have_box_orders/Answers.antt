use Rattle.bb_implements.proofs.OrderedBoxes.{implementing_nets_have_box_orders}
use Rattle.bb_implements.proofs.naming_laws.implementing_nets_have_box_orders.Goals as goal

pub returns : goal.returns
returns c = implementing_nets_have_box_orders c.laws_of_designs.ensures
