use Rattle.std.proofs.Common.{◌∙◌, ◌↔◌, IsTrue, IfOk, ap, subst}
use Rattle.std.proofs.lemmas.Result.{IfOk-weaker}
use Rattle.bb_cnf.specs.Chains.{IsRefutation}
use Rattle.bb_cnf.specs.Truth.{HaveNoModel}
use Rattle.bb_cnf.specs.Clauses.{lists_of}
use Rattle.bb_cnf.proofs.Soundness.{refutations_are_sound}
use Rattle.bb_cnf.proofs.checker.check.Goals as goal

pub returns-clause-exact : goal.returns-clause-exact
returns-clause-exact c =
    subst (λ steps. IfOk c.refutes.result (λ yes. IsTrue yes ↔ IsRefutation c.args.cnf.now.clauses steps)) c.deref-2.ensures.value
    (subst (λ clauses. IfOk c.refutes.result (λ yes. IsTrue yes ↔ IsRefutation clauses c.deref-2.result.now))
    (ap lists_of c.deref.ensures.value ∙ ap (λ formula. formula.clauses) c.cnf.view_is) c.refutes.ensures)

pub returns-clause-none : goal.returns-clause-none
returns-clause-none c =
    IfOk-weaker c.refutes.result (λ yes. IsTrue yes ↔ IsRefutation c.args.cnf.now.clauses c.args.refutation.now.steps.items)
    (λ yes. IsTrue yes → HaveNoModel c.args.cnf.now.clauses)
    (λ yes exact reported. refutations_are_sound _ _ (exact.0 reported)) (returns-clause-exact c)
