use Rattle.bb_rup.specs.Inside.Trails.{Propagates, unmarked}
use Rattle.bb_rup.proofs.propagation.propagate.Given as goal

abbrev pub invariant-loop-lit : goal.invariant-loop-lit
invariant-loop-lit l = Propagates l.clauses l.initial.trail l.trail

abbrev pub decreases-loop-lit : goal.decreases-loop-lit
decreases-loop-lit l = unmarked l.trail.marks.items
