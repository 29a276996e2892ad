use Rattle.std.proofs.Common.{vec_len}
use Rattle.bb_net.proofs.ordering.components.Search.close.Given as goal

abbrev pub decreases-loop-next : goal.decreases-loop-next
decreases-loop-next l = vec_len l.self.open
