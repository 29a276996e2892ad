use Rattle.bb_net.proofs.OrderLemmas.{order_has_no_walk_lem}
use Rattle.bb_net.proofs.ordering.order_has_no_walk.Goals as goal

pub returns : goal.returns
returns c = order_has_no_walk_lem
