use Rattle.bb_equiv.proofs.DesignFits.{nets_are_taken_as_designs}
use Rattle.bb_equiv.proofs.laws.nets_are_taken_as_designs.Goals as goal

pub returns : goal.returns
returns c = nets_are_taken_as_designs c.implementing_nets_have_box_orders.ensures c.implementing_nets_are_named.ensures c.followed_inputs_are_one.ensures
