use Rattle.std.proofs.Common.{subst, sym}
use Rattle.bb_net.specs.Kinds.{AreNumberedInOrder}
use Rattle.bb_net.proofs.pair.Pair.first_boxes.Goals as goal

pub first_of_kinds-requires-clause-ordered : goal.first_of_kinds-requires-clause-ordered
first_of_kinds-requires-clause-ordered c = subst AreNumberedInOrder (sym c.kinds.ensures.kinds) c.kinds.ensures.kept.beside.kinds.ordered
