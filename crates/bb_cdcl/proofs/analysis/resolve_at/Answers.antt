use Rattle.std.proofs.Common.{refl, subst, sym}
use Rattle.bb_cnf.specs.Clauses.{literals_of}
use Rattle.bb_cnf.specs.Inside.PartialResolvent.{held}
use Rattle.bb_cdcl.specs.Inside.Analysis.{AreFalsified, IsResolved}
use Rattle.bb_cdcl.proofs.Analyzed.{take_entry, covered_has}
use Rattle.bb_cdcl.proofs.Resolved.{resolves, resolved_falsified, resolved_more, reason_has, reason_below}
use Rattle.bb_cdcl.proofs.analysis.resolve_at.Goals as goal

pub at-clause-requires : goal.at-clause-requires
at-clause-requires c = reason_below _ _ _ _ (c.requires.reasons _ _ c.requires.at_place)

pub returns-clause-falsified : goal.returns-clause-falsified
returns-clause-falsified c =
    let reason = c.requires.reasons _ _ c.requires.at_place in
    let has_own = covered_has _ _ _ _ c.requires.at_place c.requires.covered in
    resolved_falsified _ _ _ _ _ _ (held c.args.resolvent.now) _ (c.requires.new _ _ c.requires.at_place) reason c.at-clause.ensures refl has_own
    (subst (λ es. AreFalsified es (held c.args.resolvent.now)) (take_entry _ _ _ c.requires.at_place) c.requires.falsified)
    (resolves c.args.lit (held c.args.resolvent.now) (literals_of c.at-clause.result.now) _ c.in_ok-resolve.field-0 has_own
    (reason_has _ _ _ _ _ reason c.at-clause.ensures) c.in_ok-resolve.ensures.resolved c.in_ok-resolve.ensures.none)

pub returns-clause-resolved : goal.returns-clause-resolved
returns-clause-resolved c first before =
    let reason = c.requires.reasons _ _ c.requires.at_place in
    let has_own = covered_has _ _ _ _ c.requires.at_place c.requires.covered in
    subst (λ pairs. IsResolved c.args.clauses.now first pairs c.resolve.new.self) (sym c.in_ok-push.ensures.items)
    (resolved_more c.chains.ensures c.args.clauses.now first _ _ _ c.args.reason c.args.lit.var c.at-clause.result.now before c.at-clause.ensures
    (resolves c.args.lit (held c.args.resolvent.now) (literals_of c.at-clause.result.now) _ c.in_ok-resolve.field-0 has_own
    (reason_has _ _ _ _ _ reason c.at-clause.ensures) c.in_ok-resolve.ensures.resolved c.in_ok-resolve.ensures.none)
    c.in_ok-resolve.ensures.listed)
