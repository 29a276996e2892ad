use Rattle.bb_net.proofs.ValueLemmas.{IsWritten}
use Rattle.bb_net.proofs.value.write_cells.Given as goal

abbrev pub invariant-loop-place : goal.invariant-loop-place
invariant-loop-place l = IsWritten l.cells l.x l.initial.out l.out l.place
