use Rattle.bb_elab.proofs.CopyMarks.{AreFollowed}
use Rattle.bb_lemmas.proofs.Marks.{unmarked}
use Rattle.bb_elab.proofs.reading.follow.Given as goal

abbrev pub invariant-loop-place : goal.invariant-loop-place
invariant-loop-place l = AreFollowed l.cells l.fn.marks l.marks l.start l.place

abbrev pub decreases-loop-place : goal.decreases-loop-place
decreases-loop-place l = unmarked l.marks
