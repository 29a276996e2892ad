use Rattle.std.proofs.Common.{◌≤◌, ◌-◌, length, map, vec_items}
use Rattle.bb_tern.specs.Inside.Lanes.{HasRoom}
use Rattle.bb_tern.proofs.FirstHits.{NoneBelow}
use Rattle.bb_tern.proofs.simulation.first_hit.Given as goal

abbrev pub invariant-loop-start : goal.invariant-loop-start
invariant-loop-start l = (l.start ≤ length l.patterns) × HasRoom l.pair l.ins l.wanted l.known × NoneBelow l.pair.spec l.pair.imp (map vec_items l.patterns) l.start

abbrev pub decreases-loop-start : goal.decreases-loop-start
decreases-loop-start l = length l.patterns - l.start
