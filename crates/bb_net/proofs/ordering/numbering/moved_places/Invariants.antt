use Rattle.std.proofs.Common.{◌≡◌, map, take}
use Rattle.bb_net.specs.Inside.Placings.{given_place}
use Rattle.bb_net.proofs.ordering.numbering.moved_places.Given as goal

abbrev pub invariant-loop-k : goal.invariant-loop-k
invariant-loop-k l = l.moved.items ≡ map (given_place l.to) (take l.k-index l.places)
