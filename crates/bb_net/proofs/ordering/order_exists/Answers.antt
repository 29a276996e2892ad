use Rattle.bb_net.proofs.SomeOrders.{order_exists_lem}
use Rattle.bb_net.proofs.ordering.order_exists.Goals as goal

pub returns : goal.returns
returns c = order_exists_lem
