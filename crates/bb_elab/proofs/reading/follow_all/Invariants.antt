use Rattle.std.proofs.Common.{take}
use Rattle.bb_elab.proofs.CopyMarks.{AreAllFollowed}
use Rattle.bb_elab.proofs.reading.follow_all.Given as goal

abbrev pub invariant-loop-start : goal.invariant-loop-start
invariant-loop-start l = AreAllFollowed l.cells l.fn.marks l.marks (take l.start-index l.starts)
