use Rattle.std.proofs.Common.{◌≡◌, take}
use Rattle.bb_net.specs.Pairs.{pin_count}
use Rattle.bb_input.specs.Inside.Order.{in_variables}
use Rattle.bb_input.proofs.order.input_variables.Given as goal

abbrev pub invariant-loop-pins : goal.invariant-loop-pins
invariant-loop-pins l = (l.next ≡ pin_count (take l.pins-index l.boxes)) × (l.variables.items ≡ in_variables 0 (take l.pins-index l.boxes))
