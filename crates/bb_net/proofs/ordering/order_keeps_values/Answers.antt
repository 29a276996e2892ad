use Rattle.bb_net.proofs.OrderLemmas.{order_keeps_values_lem}
use Rattle.bb_net.proofs.ordering.order_keeps_values.Goals as goal

pub returns : goal.returns
returns c = order_keeps_values_lem
