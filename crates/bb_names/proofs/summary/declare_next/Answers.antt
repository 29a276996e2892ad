use Rattle.std.proofs.Common.{cond, subst, sym, ap, ◌∙◌}
use Rattle.std.specs.Prelude.{Some}
use Rattle.std.specs.Map.{lookup}
use Rattle.bb_bits.specs.Names.{same_name}
use Rattle.bb_names.specs.Inside.Summaries.{IsSummary}
use Rattle.bb_names.proofs.SummaryLemmas.{declared_more, none_there, put_again}
use Rattle.bb_names.proofs.summary.declare_next.Goals as goal

pub returns-in_ok-insert-clause-declared : goal.returns-in_ok-insert-clause-declared
returns-in_ok-insert-clause-declared c = λ all before.
    let n = c.args.name.now in
    let old = c.args.declared.now.entries in
    let first = Some c.joined.result in
    let later = Some c.joined-then-is_some.result in
    let was = c.in_ok-earlier.ensures.old ∙ ap (λ k. lookup (same_name k) old) c.in_ok-clone.ensures.cases in
    declared_more old c.insert-then-is_some.new.self.entries n all c.args.d c.joined-then-is_some.result
    (λ q. c.in_ok-insert.ensures.updates.0 q ∙ ap (λ k. cond (same_name k q) later (lookup (same_name q) c.insert.new.self.entries)) c.in_ok-clone-2.ensures.cases
    ∙ ap (cond (same_name n q) later) (c.in_ok-earlier.ensures.updates.0 q ∙ ap (λ k. cond (same_name k q) first (lookup (same_name q) old)) c.in_ok-clone.ensures.cases)
    ∙ put_again (same_name n q) first later (lookup (same_name q) old))
    (c.joined-then-is_some.ensures n all (subst (IsSummary n all) (sym was) (before n))) before

pub returns-else-is_some-clause-declared : goal.returns-else-is_some-clause-declared
returns-else-is_some-clause-declared c = λ all before.
    let n = c.args.name.now in
    let old = c.args.declared.now.entries in
    let was = c.in_ok-earlier.ensures.old ∙ ap (λ k. lookup (same_name k) old) c.in_ok-clone.ensures.cases in
    let none = none_there c.in_ok-earlier.earlier (sym c.if-is_some.ensures) in
    declared_more old c.insert.new.self.entries n all c.args.d c.joined.result
    (λ q. c.in_ok-earlier.ensures.updates.0 q ∙ ap (λ k. cond (same_name k q) (Some c.joined.result) (lookup (same_name q) old)) c.in_ok-clone.ensures.cases)
    (c.joined.ensures n all (subst (IsSummary n all) (sym was ∙ none) (before n))) before
