use Rattle.std.proofs.Common.{◌≡◌, map, take, drop}
use Rattle.bb_net.specs.Orders.{moved_pins}
use Rattle.bb_net.specs.Rearrangements.{new_place}
use Rattle.bb_net.proofs.rearranging.move_boxes.Given as goal

abbrev pub invariant-loop-b : goal.invariant-loop-b
invariant-loop-b l = (take l.b l.boxes ≡ map (moved_pins (new_place l.numbers)) (take l.b l.initial.boxes)) × (drop l.b l.boxes ≡ drop l.b l.initial.boxes)
