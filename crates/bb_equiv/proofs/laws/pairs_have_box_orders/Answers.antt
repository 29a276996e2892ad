use Rattle.bb_equiv.proofs.DesignPairs.{pairs_have_box_orders}
use Rattle.bb_equiv.proofs.laws.pairs_have_box_orders.Goals as goal

pub returns : goal.returns
returns c = pairs_have_box_orders c.implementing_nets_have_box_orders.ensures
