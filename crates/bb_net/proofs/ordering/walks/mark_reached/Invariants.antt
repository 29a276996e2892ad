use Rattle.std.proofs.Common.{◌+◌, length}
use Rattle.bb_net.specs.Inside.Walks.{unseen, IsSearched, AreDone}
use Rattle.bb_net.proofs.ordering.walks.mark_reached.Given as goal

abbrev pub invariant-loop-place : goal.invariant-loop-place
invariant-loop-place l = record {
  search : IsSearched l.loose l.start l.seen l.stack.items;
  done : AreDone l.loose l.seen l.done.items;
}

abbrev pub decreases-loop-place : goal.decreases-loop-place
decreases-loop-place l = unseen l.seen + length l.stack.items
