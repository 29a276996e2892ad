use Rattle.bb_rup.proofs.Reached.{propagates_then}
use Rattle.bb_rup.proofs.propagation.settle.Goals as goal

pub loop-trail-preserved : goal.loop-trail-preserved
loop-trail-preserved c =
    propagates_then c.args.clauses.now _ _ _ (propagates_then c.args.clauses.now _ _ _ c.loop-trail.invariant c.in_ok-propagate.ensures.propagates)
    c.in_ok-imply-in-Implied.ensures.propagates
