use Rattle.std.proofs.Common.{IfSome, IfNone, subst, arith}
use Rattle.bb_cnf.specs.Clauses.{lists_of}
use Rattle.bb_cdcl.specs.Inside.States.{Ends, Pauses}
use Rattle.bb_cdcl.proofs.solver.decide_within.Goals as goal

pub outcome-requires-clause-some : goal.outcome-requires-clause-some
outcome-requires-clause-some c satisfied =
    let ends = subst (λ end. IfSome end (Ends (lists_of c.args.given.now) c.resume.new.s c.search_within.new.s)) c.in-Some.is c.in_ok-satisfied.ensures.ends in
    let whole = subst (Ends (lists_of c.args.given.now) c.resume.new.s c.search_within.new.s) satisfied ends in
    omega (arith, whole.pauses.same, c.in_ok-resume.ensures.values)

pub outcome-requires-clause-refutes : goal.outcome-requires-clause-refutes
outcome-requires-clause-refutes c refuted =
    let ends = subst (λ end. IfSome end (Ends (lists_of c.args.given.now) c.resume.new.s c.search_within.new.s)) c.in-Some.is c.in_ok-satisfied.ensures.ends in
    subst (Ends (lists_of c.args.given.now) c.resume.new.s c.search_within.new.s) refuted ends

pub returns-in-Some-clause-sat : goal.returns-in-Some-clause-sat
returns-in-Some-clause-sat c =
    c.in_ok-outcome-in-Some.ensures.sat c.args.vars c.resume.new.s c.in_ok-resume.ensures.values c.requires
    (subst (λ end. IfSome end (Ends (lists_of c.args.given.now) c.resume.new.s c.search_within.new.s)) c.in-Some.is c.in_ok-satisfied.ensures.ends)

pub spent-requires : goal.spent-requires
spent-requires c =
    (subst (λ end. IfNone end (Pauses (lists_of c.args.given.now) c.resume.new.s c.search_within.new.s)) c.in-None.is c.in_ok-satisfied.ensures.pauses).derived

pub resume-requires-clause-derived : goal.resume-requires-clause-derived
resume-requires-clause-derived c = c.in_ok-s.ensures.derived _
