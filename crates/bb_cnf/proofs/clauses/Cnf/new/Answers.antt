use Rattle.std.proofs.Common.{◌≡◌, ◌∙◌, sym, subst, refl, All, true, false}
use Rattle.bb_cnf.proofs.Within.{AreWithin, within_lists, within_clauses}
use Rattle.bb_cnf.proofs.clauses.Cnf.new.Goals as goal

pub invariant_of-result : goal.invariant_of-result
invariant_of-result c =
    within_lists _ _ (subst (All (λ clause. AreWithin c.args.vars clause.items)) c.deref.ensures.value (c.are_within.ensures.0 c.if-are_within.true))

pub returns-then-are_within-clause-exact : goal.returns-then-are_within-clause-exact
returns-then-are_within-clause-exact c = (
  λ _. within_lists _ _ (subst (All (λ clause. AreWithin c.args.vars clause.items)) c.deref.ensures.value (c.are_within.ensures.0 c.if-are_within.true)),
  λ _. refl,
)

pub returns-else-are_within-clause-exact : goal.returns-else-are_within-clause-exact
returns-else-are_within-clause-exact c = (
  λ no. absurd (let clash : false ≡ true = no in cc),
  λ within. sym c.if-are_within.false
      ∙ c.are_within.ensures.1 (subst (All (λ clause. AreWithin c.args.vars clause.items)) (sym c.deref.ensures.value) (within_clauses _ _ within)),
)
