use Rattle.bb_net.specs.Kinds.{per_box}
use Rattle.bb_net.specs.Values.{bit_of, tabled_bit}
use Rattle.bb_net.proofs.Steps.{IsFilled}
use Rattle.bb_net.proofs.ValueLemmas.{value_step}
use Rattle.bb_net.proofs.tables.write_tabled.Given as goal

abbrev pub invariant-loop-place : goal.invariant-loop-place
invariant-loop-place l = IsFilled (value_step l.boxes l.x (tabled_bit (per_box l.kinds l.tables)) l.cells) (bit_of l.out) l.place
