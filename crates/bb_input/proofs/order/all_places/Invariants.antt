use Rattle.std.proofs.Common.{◌≡◌, take}
use Rattle.bb_input.specs.InputFunctions.{pin_places}
use Rattle.bb_input.proofs.order.all_places.Given as goal

abbrev pub invariant-loop-pins : goal.invariant-loop-pins
invariant-loop-pins l = l.places.items ≡ pin_places (take l.pins-index l.boxes)
