use Rattle.std.proofs.Common.{◌≡◌, take}
use Rattle.bb_net.specs.Pairs.{pin_count}
use Rattle.bb_input.proofs.order.count_pins.Given as goal

abbrev pub invariant-loop-pins : goal.invariant-loop-pins
invariant-loop-pins l = l.count ≡ pin_count (take l.pins-index l.boxes)
