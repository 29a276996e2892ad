use Rattle.std.proofs.Common.{◌≡◌, map, take, drop}
use Rattle.bb_net.specs.Rearrangements.{new_place}
use Rattle.bb_net.proofs.rearranging.move_places.Given as goal

abbrev pub invariant-loop-k : goal.invariant-loop-k
invariant-loop-k l = (take l.k l.places ≡ map (new_place l.numbers) (take l.k l.initial.places)) × (drop l.k l.places ≡ drop l.k l.initial.places)
