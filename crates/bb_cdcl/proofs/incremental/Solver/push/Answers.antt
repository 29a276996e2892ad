use Rattle.std.proofs.Common.{sym, subst}
use Rattle.bb_cdcl.specs.Inside.Resting.{IsResting}
use Rattle.bb_cdcl.proofs.Resting.{rests_longer}
use Rattle.bb_cdcl.proofs.incremental.Solver.push.Goals as goal

pub invariant_of-self-2 : goal.invariant_of-self-2
invariant_of-self-2 c =
    subst (λ f. IsResting c.self.inside.known f c.self.inside.state) (sym c.in_ok-push.ensures.ok) (rests_longer _ _ _ c.args.clause.items c.self.invariant)
