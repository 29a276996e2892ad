use Rattle.std.proofs.Common.{take}
use Rattle.bb_net.specs.Inside.Walks.{IsMarked}
use Rattle.bb_net.proofs.ordering.walks.mark_all.Given as goal

abbrev pub invariant-loop-place : goal.invariant-loop-place
invariant-loop-place l = IsMarked (take l.place-index l.places) l.initial.seen l.initial.stack.items l.seen l.stack.items
