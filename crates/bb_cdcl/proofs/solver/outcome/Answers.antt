use Rattle.std.proofs.Common.{◌≡◌, ◌+◌, ◌-◌, subst, sym, ap, ◌∙◌, length, All, arith}
use Rattle.bb_cnf.specs.Clauses.{lists_of, HasVariablesWithin}
use Rattle.bb_cdcl.specs.Inside.Events.{IsSatisfied}
use Rattle.bb_cdcl.specs.Inside.States.{Ends}
use Rattle.bb_cdcl.proofs.solver.outcome.Goals as goal

pub returns-in_ok-bits-clause-sat : goal.returns-in_ok-bits-clause-sat
returns-in_ok-bits-clause-sat c vars old whole within end =
    let given = lists_of c.args.given.now in
    let ends = subst (Ends given old c.args.s) c.if-satisfied.true end in
    let values = c.deref.ensures.value in
    let count : length c.deref.result.now ≡ vars + 1 = ap length values ∙ ends.pauses.same ∙ whole in
    let below : vars ≡ length c.deref.result.now - 1 = omega (arith, count) in
    let bits = c.in_ok-bits.ensures.length in (
      omega (arith, bits, count),
      c.in_ok-bits.ensures.satisfies given (subst (λ n. HasVariablesWithin n given) below within) (subst (λ vs. All (IsSatisfied vs) given) (sym values) ends.satisfied),
    )
