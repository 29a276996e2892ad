use Rattle.std.proofs.Common.{ap, subst, ◌∙◌}
use Rattle.bb_cnf.specs.Clauses.{lists_of}
use Rattle.bb_rup.specs.Additions.{IsRupAnswer}
use Rattle.bb_rup.proofs.Steps.{yes_exactly, no_exactly, yes_no_model}
use Rattle.bb_rup.proofs.refutation.rup.Goals as goal

pub returns-clause-yes : goal.returns-clause-yes
returns-clause-yes c =
    let same = ap lists_of c.deref.ensures.value ∙ ap (λ formula. formula.clauses) c.cnf.view_is in
    yes_exactly c.args.cnf.now.clauses (lists_of c.args.adds.now) c.in_ok-answer.answer
    (subst (λ k. IsRupAnswer k (lists_of c.args.adds.now) c.in_ok-answer.answer) same c.in_ok-answer.ensures)

pub returns-clause-no : goal.returns-clause-no
returns-clause-no c =
    let same = ap lists_of c.deref.ensures.value ∙ ap (λ formula. formula.clauses) c.cnf.view_is in
    no_exactly c.args.cnf.now.clauses (lists_of c.args.adds.now) c.in_ok-answer.answer
    (subst (λ k. IsRupAnswer k (lists_of c.args.adds.now) c.in_ok-answer.answer) same c.in_ok-answer.ensures)

pub returns-clause-none : goal.returns-clause-none
returns-clause-none c =
    let same = ap lists_of c.deref.ensures.value ∙ ap (λ formula. formula.clauses) c.cnf.view_is in
    yes_no_model c.args.cnf.now.clauses (lists_of c.args.adds.now) c.in_ok-answer.answer
    (subst (λ k. IsRupAnswer k (lists_of c.args.adds.now) c.in_ok-answer.answer) same c.in_ok-answer.ensures)
