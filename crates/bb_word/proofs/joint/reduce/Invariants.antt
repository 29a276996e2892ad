use Rattle.bb_word.proofs.JointLemmas.{IsReduced}
use Rattle.bb_word.proofs.joint.reduce.Given as goal

abbrev pub invariant-loop-i : goal.invariant-loop-i
invariant-loop-i l = IsReduced l.joint l.bits l.fn.net l.net l.so_far l.i
