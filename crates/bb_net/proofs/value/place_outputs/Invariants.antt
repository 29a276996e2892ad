use Rattle.bb_net.proofs.ValueLemmas.{ArePlaced}
use Rattle.bb_net.proofs.value.place_outputs.Given as goal

abbrev pub invariant-loop-pins : goal.invariant-loop-pins
invariant-loop-pins l = ArePlaced l.boxes l.z l.out l.start l.pins-index
