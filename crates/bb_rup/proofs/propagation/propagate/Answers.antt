use Rattle.bb_rup.proofs.Reached.{propagates_then}
use Rattle.bb_rup.proofs.propagation.propagate.Goals as goal

pub loop-lit-preserved : goal.loop-lit-preserved
loop-lit-preserved c = propagates_then c.args.clauses.now _ _ _ c.loop-lit.invariant c.in_ok-imply-in-Implied.ensures.propagates
