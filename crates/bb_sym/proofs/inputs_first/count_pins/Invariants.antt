use Rattle.std.proofs.Common.{◌≡◌, take}
use Rattle.bb_net.specs.Values.{output_pins}
use Rattle.bb_sym.proofs.inputs_first.count_pins.Given as goal

abbrev pub invariant-loop-pins : goal.invariant-loop-pins
invariant-loop-pins l = l.count ≡ output_pins (take l.pins-index l.boxes)
