use Rattle.std.proofs.Common.{◌≡◌, ◌++◌, take}
use Rattle.std.specs.List.{flat_map}
use Rattle.bb_net.specs.Netlists.{Pins}
use Rattle.bb_elab.proofs.reading.add_pins.Given as goal

abbrev pub invariant-loop-pins : goal.invariant-loop-pins
invariant-loop-pins l = l.places.items ≡ l.fn.places.items ++ flat_map (λ (b : Pins). b.ins) (take l.pins-index l.boxes)
