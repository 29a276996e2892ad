use Rattle.std.proofs.Common.{◌≡◌, true, List, ◌∙◌, ap, subst}
use Rattle.smallvec.specs.SmallVec.{SmallVec}
use Rattle.bb_cnf.specs.declared.clauses.Lit.{Lit}
use Rattle.bb_cnf.specs.Clauses.{Formula, lists_of}
use Rattle.bb_cnf.specs.Chains.{IsRefutation}
use Rattle.bb_cdcl.specs.Inside.States.{Ends}
use Rattle.bb_cdcl.proofs.Resting.{rests_again, model_of}
use Rattle.bb_cdcl.proofs.incremental.Solver.solve.Goals as goal

pub invariant_of-solver : goal.invariant_of-solver
invariant_of-solver c =
    let ends = subst (λ (gs : List (SmallVec Lit)). Ends (lists_of gs) c.resume.new.s c.search.new.s true) c.deref-2.ensures.value
    (subst (Ends (lists_of c.deref-2.result.now) c.resume.new.s c.search.new.s) c.if-branch.true c.in_ok-search.ensures) in
    rests_again c.cnf.inside.clauses.items c.cnf.inside.vars _ _ c.resume.new.s _ c.cnf.view_is (c.len-known.ensures ∙ c.cnf.inside.clauses.ok.0) c.in_ok-resume.ensures.values ends

pub returns-in_ok-bits-clause-sat : goal.returns-in_ok-bits-clause-sat
returns-in_ok-bits-clause-sat c =
    let ends = subst (λ (gs : List (SmallVec Lit)). Ends (lists_of gs) c.resume.new.s c.search.new.s true) c.deref-2.ensures.value
    (subst (Ends (lists_of c.deref-2.result.now) c.resume.new.s c.search.new.s) c.if-branch.true c.in_ok-search.ensures) in (
      model_of c.cnf.inside.clauses.items c.cnf.inside.vars c.args.self c.resume.new.s c.search.new.s _ _ (c.cnf.view_is ∙ c.self.view_is) c.deref-then-branch.ensures.value
          c.in_ok-resume.ensures.values c.cnf.invariant ends c.in_ok-bits.ensures.length c.in_ok-bits.ensures.satisfies,
      c.self.view_is,
    )

pub returns-in_ok-bits-clause-exact : goal.returns-in_ok-bits-clause-exact
returns-in_ok-bits-clause-exact c = (λ _. (c.in_ok-bits.bits.items, (returns-in_ok-bits-clause-sat c).0), λ _. tt)

pub returns-in_ok-refutation-clause-exact : goal.returns-in_ok-refutation-clause-exact
returns-in_ok-refutation-clause-exact c =
    let whole : lists_of c.deref-else-branch.result.now ≡ c.args.self.clauses =
    ap lists_of c.deref-else-branch.ensures.value ∙ ap (λ (f : Formula). f.clauses) (c.cnf.view_is ∙ c.self.view_is) in (
      λ none. absurd none,
      λ m. c.refutations.ensures.refutation c.args.self.clauses c.in_ok-refutation.refutation.steps.items
          (subst (λ gs. IsRefutation gs c.in_ok-refutation.refutation.steps.items) whole c.in_ok-refutation.ensures) _ m.1.1,
    )
