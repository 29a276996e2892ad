use Rattle.bb_hier.proofs.RecursionLoops.{AreKeptBefore}
use Rattle.bb_hier.proofs.recursion.forget_unmarked.Given as goal

abbrev pub invariant-loop-k : goal.invariant-loop-k
invariant-loop-k l = AreKeptBefore l.top l.marks l.fn.callees l.callees l.k
