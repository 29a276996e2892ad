use Rattle.bb_rup.specs.Inside.Trails.{Propagates, unmarked}
use Rattle.bb_rup.proofs.propagation.settle.Given as goal

abbrev pub invariant-loop-trail : goal.invariant-loop-trail
invariant-loop-trail l = Propagates l.clauses l.initial.trail l.trail

abbrev pub decreases-loop-trail : goal.decreases-loop-trail
decreases-loop-trail l = unmarked l.trail.marks.items
