use Rattle.std.proofs.Common.{◌≡◌, [], ◌∷◌, ◌++◌, length, sym, ap, subst, ◌∙◌}
use Rattle.std.proofs.lemmas.List.{length-map}
use Rattle.smallvec.specs.SmallVec.{SmallVec}
use Rattle.bb_cnf.specs.declared.clauses.Lit.{Lit}
use Rattle.bb_cnf.specs.Clauses.{lists_of}
use Rattle.bb_cnf.specs.declared.partial_resolvent.PartialResolvent.{PartialResolvent}
use Rattle.bb_cnf.specs.Inside.PartialResolvent.{held, AreListed}
use Rattle.bb_cdcl.proofs.Derived.{learned_last}
use Rattle.bb_cdcl.proofs.learning.learn.Goals as goal

pub returns : goal.returns
returns c =
    let count : length c.args.given.now ≡ length (lists_of c.args.given.now) = sym (length-map c.args.given.now (λ (clause : SmallVec Lit). clause.items)) in
    learned_last c.chains.ensures _ _ c.conflict_step.new.s _ _ c.in_ok-backjump.step c.in_ok-clause.clause c.in_ok-backjump.ensures c.in_ok-clause.ensures.given c.in_ok-add.ensures.learned
    (subst (λ n. c.add.new.s.steps.items ≡ c.conflict_step.new.s.steps.items ++ record { given = n; step = c.in_ok-backjump.step } ∷ []) count c.in_ok-add.ensures.steps) c.add.ensures.trail (λ l. ap (λ (r : PartialResolvent). held r l) c.add.ensures.resolvent ∙ c.in_ok-clause.ensures.empty l)
    (subst AreListed (sym c.add.ensures.resolvent) c.in_ok-clause.ensures.listed)
