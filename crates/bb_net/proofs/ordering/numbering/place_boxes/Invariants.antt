use Rattle.std.proofs.Common.{◌≡◌, ◌-◌, [], length}
use Rattle.bb_net.specs.Inside.Placings.{IsPlacing}
use Rattle.bb_net.proofs.ordering.numbering.place_boxes.Given as goal

abbrev pub invariant-loop-b : goal.invariant-loop-b
invariant-loop-b l = record {
  placing : IsPlacing l.loose l.s [] [];
  settled : l.s.fresh.items ≡ [];
}

abbrev pub decreases-loop-b : goal.decreases-loop-b
decreases-loop-b l = length l.loose.boxes - length l.s.numbers.items
