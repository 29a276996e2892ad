use Rattle.std.proofs.Common.{◌≡◌, [], replicate}
use Rattle.bb_net.proofs.ordering.beginning.nobody.Given as goal

abbrev pub invariant-loop : goal.invariant-loop
invariant-loop l = l.waiting.items ≡ replicate l.counter []
