use Rattle.std.proofs.Common.{◌≡◌, [], ◌∷◌, ◌++◌, Some, length, map, sym, ap, subst, ◌∙◌}
use Rattle.std.proofs.lemmas.List.{length-map}
use Rattle.smallvec.specs.SmallVec.{SmallVec}
use Rattle.bb_cnf.specs.declared.clauses.Lit.{Lit}
use Rattle.bb_cnf.specs.Clauses.{Literals, literals_of, lists_of}
use Rattle.bb_cnf.specs.Chains.{made_by}
use Rattle.bb_cdcl.specs.Inside.States.{all_clauses}
use Rattle.bb_cdcl.proofs.Derived.{grows_by}
use Rattle.bb_cdcl.proofs.units.make_unit.Goals as goal

pub returns-clause-grows : goal.returns-clause-grows
returns-clause-grows c =
    let clauses : c.new-clauses.result ≡ all_clauses (lists_of c.args.given.now) c.args.s.now = c.new-clauses.ensures ∙ ap (λ more. lists_of c.args.given.now ++ lists_of more) c.deref.ensures.value in
    let count : length c.args.given.now ≡ length (lists_of c.args.given.now) = sym (length-map c.args.given.now (λ (clause : SmallVec Lit). clause.items)) in
    grows_by c.chains.ensures _ _ _ c.in_ok-clause.clause c.in_ok-step.step c.requires.derived c.in_ok-add.ensures.learned
    (subst (λ n. c.add.new.s.steps.items ≡ c.args.s.now.steps.items ++ record { given = n; step = c.in_ok-step.step } ∷ []) count c.in_ok-add.ensures.steps)
    (ap (λ all. made_by (map literals_of all) c.in_ok-step.step) (sym clauses) ∙ c.in_ok-step.ensures.made ∙ ap (λ (k : Literals). Some k) (sym c.in_ok-clause.ensures.given))
    c.add.ensures.trail c.add.ensures.resolvent
