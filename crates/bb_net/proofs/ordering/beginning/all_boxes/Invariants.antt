use Rattle.std.proofs.Common.{◌≡◌, map}
use Rattle.std.specs.List.{range_with_len}
use Rattle.bb_net.specs.declared.ordering.placing.Waiter.TheVariants as waiter
use Rattle.bb_net.proofs.ordering.beginning.all_boxes.Given as goal

abbrev pub invariant-loop-b : goal.invariant-loop-b
invariant-loop-b l = l.all.items ≡ map (λ b. waiter.Box b 0) (range_with_len 0 l.b)
