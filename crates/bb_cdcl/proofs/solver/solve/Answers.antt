use Rattle.std.proofs.Common.{◌≡◌, ap, subst, ◌∙◌}
use Rattle.bb_cnf.specs.Clauses.{lists_of}
use Rattle.bb_cdcl.specs.Inside.Outcomes.{IfSat, IfUnsat, formula}
use Rattle.bb_cdcl.proofs.Decided.{sat_exactly}
use Rattle.bb_cdcl.proofs.solver.solve.Goals as goal

pub returns-clause-exact : goal.returns-clause-exact
returns-clause-exact c =
    let same : formula c.cnf.inside.vars (lists_of c.deref.result.now) ≡ c.args.cnf.now = ap (λ all. formula c.cnf.inside.vars (lists_of all)) c.deref.ensures.value ∙ c.cnf.view_is in
    sat_exactly c.refutations.ensures _ c.in_ok-outcome.outcome
    (subst (IfSat c.in_ok-outcome.outcome) same c.in_ok-outcome.ensures.sat)
    (subst (IfUnsat c.in_ok-outcome.outcome) same c.in_ok-outcome.ensures.unsat)
