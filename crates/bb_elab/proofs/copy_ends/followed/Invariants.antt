use Rattle.bb_elab.proofs.ClockWalks.{Comes}
use Rattle.bb_elab.proofs.copy_ends.followed.Given as goal

abbrev pub invariant-loop-step : goal.invariant-loop-step
invariant-loop-step l = Comes l.list l.place l.at l._step
