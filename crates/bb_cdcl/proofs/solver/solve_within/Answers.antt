use Rattle.std.proofs.Common.{◌≡◌, ap, subst, ◌∙◌}
use Rattle.bb_cnf.specs.Clauses.{lists_of}
use Rattle.bb_cdcl.specs.Inside.Outcomes.{IfSat, IfUnsat, IfDecided, formula}
use Rattle.bb_cdcl.proofs.Decided.{decided_exactly}
use Rattle.bb_cdcl.proofs.solver.solve_within.Goals as goal

pub returns-clause-exact : goal.returns-clause-exact
returns-clause-exact c =
    let same : formula c.cnf.inside.vars (lists_of c.deref.result.now) ≡ c.args.cnf.now = ap (λ all. formula c.cnf.inside.vars (lists_of all)) c.deref.ensures.value ∙ c.cnf.view_is in
    decided_exactly c.refutations.ensures _ c.in_ok-attempt.attempt
    (subst (λ f. IfDecided c.in_ok-attempt.attempt (λ o. IfSat o f)) same c.in_ok-attempt.ensures.sat)
    (subst (λ f. IfDecided c.in_ok-attempt.attempt (λ o. IfUnsat o f)) same c.in_ok-attempt.ensures.unsat)
