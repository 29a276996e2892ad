use Rattle.std.proofs.Common.{◌≡◌, true, IfSome, take, subst, sym, ap, ◌∙◌, arith}
use Rattle.bb_cnf.specs.Clauses.{literals_of}
use Rattle.bb_cnf.specs.Inside.PartialResolvent.{held}
use Rattle.bb_cdcl.specs.Inside.Trails.{IsReason}
use Rattle.bb_cdcl.specs.Inside.Analysis.{IsResolved}
use Rattle.bb_cdcl.proofs.Resolved.{resolves, resolved_more, reason_has, reason_below}
use Rattle.bb_cdcl.proofs.Minimized.{covered_resolved}
use Rattle.bb_cdcl.proofs.minimization.resolve_before.Goals as goal

pub at-clause-requires : goal.at-clause-requires
at-clause-requires c =
    reason_below _ _ _ _ (subst (λ o. IfSome o (IsReason c.args.clauses.now (take c.args.at c.args.entries.now) c.entry_at-entry.result.lit)) c.in-Some.is (c.requires.reasons _ _ c.entry_at-entry.ensures))

pub returns-clause-covered : goal.returns-clause-covered
returns-clause-covered c =
    let reason = subst (λ o. IfSome o (IsReason c.args.clauses.now (take c.args.at c.args.entries.now) c.entry_at-entry.result.lit)) c.in-Some.is (c.requires.reasons _ _ c.entry_at-entry.ensures) in
    let has : c.has.result ≡ true = (let not_not = c.if-not-has.false in grind (arith, not_not)) in
    let has_own = ap (held c.args.resolvent.now) (sym c.negation.ensures) ∙ sym c.has.ensures ∙ has in
    covered_resolved _ _ _ c.args.at c.entry_at-entry.result c.in-Some.reason _ (held c.args.resolvent.now) _ c.requires.new c.entry_at-entry.ensures reason c.at-clause.ensures c.requires.before has_own
    (resolves c.entry_at-entry.result.lit (held c.args.resolvent.now) (literals_of c.at-clause.result.now) _ c.in_ok-resolve.field-0 has_own
    (reason_has _ _ _ _ _ reason c.at-clause.ensures) c.in_ok-resolve.ensures.resolved c.in_ok-resolve.ensures.none)
    c.requires.covered

pub returns-clause-resolved : goal.returns-clause-resolved
returns-clause-resolved c first before =
    let reason = subst (λ o. IfSome o (IsReason c.args.clauses.now (take c.args.at c.args.entries.now) c.entry_at-entry.result.lit)) c.in-Some.is (c.requires.reasons _ _ c.entry_at-entry.ensures) in
    let has : c.has.result ≡ true = (let not_not = c.if-not-has.false in grind (arith, not_not)) in
    let has_own = ap (held c.args.resolvent.now) (sym c.negation.ensures) ∙ sym c.has.ensures ∙ has in
    subst (λ pairs. IsResolved c.args.clauses.now first pairs c.resolve.new.self) (sym c.in_ok-push.ensures.items)
    (resolved_more c.chains.ensures c.args.clauses.now first _ _ _ c.in-Some.reason c.entry_at-entry.result.lit.var c.at-clause.result.now before c.at-clause.ensures
    (resolves c.entry_at-entry.result.lit (held c.args.resolvent.now) (literals_of c.at-clause.result.now) _ c.in_ok-resolve.field-0 has_own
    (reason_has _ _ _ _ _ reason c.at-clause.ensures) c.in_ok-resolve.ensures.resolved c.in_ok-resolve.ensures.none)
    c.in_ok-resolve.ensures.listed)
