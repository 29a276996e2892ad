use Rattle.std.proofs.Common.{subst, arith}
use Rattle.bb_cnf.specs.Clauses.{lists_of}
use Rattle.bb_cdcl.specs.Inside.States.{Ends}
use Rattle.bb_cdcl.proofs.solver.decide.Goals as goal

pub outcome-requires-clause-some : goal.outcome-requires-clause-some
outcome-requires-clause-some c satisfied =
    let ends = subst (Ends (lists_of c.args.given.now) c.resume.new.s c.search.new.s) satisfied c.in_ok-satisfied.ensures in
    omega (arith, ends.pauses.same, c.in_ok-resume.ensures.values)

pub outcome-requires-clause-refutes : goal.outcome-requires-clause-refutes
outcome-requires-clause-refutes c refuted = subst (Ends (lists_of c.args.given.now) c.resume.new.s c.search.new.s) refuted c.in_ok-satisfied.ensures

pub returns-clause-sat : goal.returns-clause-sat
returns-clause-sat c = c.in_ok-outcome.ensures.sat c.args.vars c.resume.new.s c.in_ok-resume.ensures.values c.requires c.in_ok-satisfied.ensures

pub resume-requires-clause-derived : goal.resume-requires-clause-derived
resume-requires-clause-derived c = c.in_ok-s.ensures.derived _
