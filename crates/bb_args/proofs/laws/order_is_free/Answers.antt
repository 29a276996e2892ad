use Rattle.bb_args.proofs.OrderLemmas.{order_is_free}
use Rattle.bb_args.proofs.laws.order_is_free.Goals as goal

pub returns : goal.returns
returns c = order_is_free
