use Rattle.std.proofs.Common.{◌≡◌, ◌+◌, take}
use Rattle.bb_net.specs.Pairs.{pin_count}
use Rattle.bb_match.specs.Refusals.{most_pins}
use Rattle.bb_match.proofs.pins.are_too_many.Given as goal

abbrev pub invariant-loop-pins : goal.invariant-loop-pins
invariant-loop-pins l = l.left + (l.inputs + pin_count (take l.pins-index l.boxes)) ≡ most_pins
