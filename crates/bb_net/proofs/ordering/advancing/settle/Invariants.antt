use Rattle.std.proofs.Common.{◌≡◌, []}
use Rattle.bb_net.specs.Inside.Placings.{IsPlacing, work}
use Rattle.bb_net.proofs.ordering.advancing.settle.Given as goal

abbrev pub invariant-loop-a : goal.invariant-loop-a
invariant-loop-a l = record {
  placing : IsPlacing l.loose l.s [] [];
  numbers : l.s.numbers.items ≡ l.initial.s.numbers.items;
}

abbrev pub decreases-loop-a : goal.decreases-loop-a
decreases-loop-a l = work l.s
