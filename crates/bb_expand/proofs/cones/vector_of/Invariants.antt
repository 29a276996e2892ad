use Rattle.std.proofs.Common.{◌≡◌, length}
use Rattle.bb_expand.proofs.cones.vector_of.Given as goal

abbrev pub invariant-loop-leaf : goal.invariant-loop-leaf
invariant-loop-leaf l = length l.x.items ≡ l.net.inputs
