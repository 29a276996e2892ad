use Rattle.std.proofs.Common.{◌≡◌, take, length}
use Rattle.bb_uniq.specs.Inside.Probes.{ArePlaces}
use Rattle.bb_uniq.proofs.places.put_all.Given as goal

abbrev pub invariant-loop-k : goal.invariant-loop-k
invariant-loop-k l = ArePlaces l.places (take l.k l.nodes) × (length l.places ≡ length l.fn.places)
