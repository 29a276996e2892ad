use Rattle.std.proofs.Common.{◌≡◌, length, [], ◌∙◌, sym, ap, subst, drop, ◌++◌, IfNone, None, arith, true, false}
use Rattle.std.proofs.Math.ListN.{drop_of_length-le}
use Rattle.bb_cnf.specs.Chains.{derived, made_by}
use Rattle.bb_cnf.specs.Inside.PartialResolvent.{sets_of}
use Rattle.bb_cnf.proofs.Refuted.{derived_none, not_refutation, refutation_made, refutation_ends, EndsInEmpty}
use Rattle.bb_cnf.proofs.checker.refutes.Goals as goal

pub returns-in_default : goal.returns-in_default
returns-in_default c =
    let seen : made_by (sets_of c.args.given.now ++ sets_of c.deref.result.now) c.step-item.result ≡ None =
    subst (λ o. IfNone o (made_by (sets_of c.args.given.now ++ sets_of c.deref.result.now) c.step-item.result ≡ None)) c.in_default.is c.in_ok-clause.ensures.none in
    let none : made_by (sets_of c.args.given.now ++ sets_of c.loop-step.made.items) c.step-item.result ≡ None =
    ap (λ made. made_by (sets_of c.args.given.now ++ sets_of made) c.step-item.result) (sym c.deref.ensures.value) ∙ seen in (
      λ no. absurd (let clash : false ≡ true = no in cc),
      λ refutation. absurd (not_refutation _ _
          (c.loop-step.invariant.0
          ∙ derived_none _ _ _ c.step-item.result c.loop-step-test.true (ap (made_by (sets_of c.args.given.now ++ sets_of c.loop-step.made.items)) (sym c.step-item.is) ∙ none)) refutation),
    )

pub returns : goal.returns
returns c =
    let ended : drop c.loop-step.step-index c.args.steps.now ≡ [] = drop_of_length-le c.args.steps.now c.loop-step-test.false in
    let whole = c.loop-step.invariant.0 ∙ ap (derived (sets_of c.args.given.now ++ sets_of c.loop-step.made.items)) ended in
    let count : length c.loop-step.made.items ≡ length c.args.steps.now = omega (arith, c.loop-step.invariant.1, c.loop-step.auto.step-index-end, c.loop-step-test.false) in (
      λ yes. refutation_made _ _ _ whole count (subst EndsInEmpty c.deref-2.ensures.value (c.ends_empty.ensures.0 yes)),
      λ refutation. c.ends_empty.ensures.1 (subst EndsInEmpty (sym c.deref-2.ensures.value) (refutation_ends _ _ _ whole count refutation)),
    )
