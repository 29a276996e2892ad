use Rattle.bb_cnf.proofs.Marked.{others_more}
use Rattle.bb_cnf.proofs.partial_resolvent.PartialResolvent.put_others.Goals as goal

pub loop-lit-preserved : goal.loop-lit-preserved
loop-lit-preserved c =
    (others_more _ _ _ _ _ _ _ c.loop-lit-test.true c.loop-lit.invariant.0 c.in_ok-put_unless.ensures.held, c.in_ok-put_unless.ensures.listed)
