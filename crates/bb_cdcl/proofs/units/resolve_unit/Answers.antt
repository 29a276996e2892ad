use Rattle.std.proofs.Common.{◌≡◌, ◌==◌, true, false, subst, sym, ap, ◌∙◌, arith}
use Rattle.bb_cnf.specs.Inside.PartialResolvent.{held}
use Rattle.bb_cdcl.specs.Inside.Analysis.{IsResolved}
use Rattle.bb_cdcl.proofs.Resolved.{resolved_more}
use Rattle.bb_cdcl.proofs.Unitary.{unit_resolves, unit_covered}
use Rattle.bb_cdcl.proofs.units.resolve_unit.Goals as goal

pub returns-clause-covered : goal.returns-clause-covered
returns-clause-covered c entries place back e occurs same before =
    let has : c.has.result ≡ true = (let not_not = c.if-not-has.false in grind (arith, not_not)) in
    let own = ap (held c.args.resolvent.now) (sym c.negation.ensures) ∙ sym c.has.ensures ∙ has in
    let apart : (e.lit.var == c.in-Some-only.lit.var) ≡ false = (let not_kept = c.if-lit-kept.false in grind (arith, not_kept, same)) in
    unit_covered entries place back e c.in-Some-only.lit c.at-clause.result.now (held c.args.resolvent.now) _ occurs apart c.in-Some-only.ensures own
    (unit_resolves c.in-Some-only.lit c.at-clause.result.now (held c.args.resolvent.now) _ c.in_ok-resolve.field-0 c.in-Some-only.ensures own c.in_ok-resolve.ensures.resolved c.in_ok-resolve.ensures.none)
    before

pub returns-clause-resolved : goal.returns-clause-resolved
returns-clause-resolved c first before =
    let has : c.has.result ≡ true = (let not_not = c.if-not-has.false in grind (arith, not_not)) in
    let own = ap (held c.args.resolvent.now) (sym c.negation.ensures) ∙ sym c.has.ensures ∙ has in
    subst (λ pairs. IsResolved c.args.clauses.now first pairs c.resolve.new.self) (sym c.in_ok-push.ensures.items)
    (resolved_more c.chains.ensures c.args.clauses.now first _ _ _ c.in-Some.number c.in-Some-only.lit.var c.at-clause.result.now before c.at-clause.ensures
    (unit_resolves c.in-Some-only.lit c.at-clause.result.now (held c.args.resolvent.now) _ c.in_ok-resolve.field-0 c.in-Some-only.ensures own c.in_ok-resolve.ensures.resolved c.in_ok-resolve.ensures.none)
    c.in_ok-resolve.ensures.listed)
