use Rattle.bb_elab.specs.Inside.CopyEnds.{EndsAt, AreEnds}
use Rattle.bb_elab.proofs.copy_ends.note.Given as goal

abbrev pub invariant-loop-step : goal.invariant-loop-step
invariant-loop-step l = AreEnds l.list l.ends × EndsAt l.list l.at l.end
