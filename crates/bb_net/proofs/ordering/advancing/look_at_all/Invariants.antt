use Rattle.std.proofs.Common.{◌≡◌, ◌≤◌, [], drop}
use Rattle.bb_net.specs.Inside.Placings.{IsPlacing, work}
use Rattle.bb_net.proofs.ordering.advancing.look_at_all.Given as goal

abbrev pub invariant-loop-waiter : goal.invariant-loop-waiter
invariant-loop-waiter l = record {
  placing : IsPlacing l.loose l.s (drop l.waiter-index l.woken) [];
  less : work l.s ≤ work l.initial.s;
  numbers : l.s.numbers.items ≡ l.initial.s.numbers.items;
}
