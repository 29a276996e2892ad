use Rattle.std.proofs.Common.{◌≡◌, ℕ, ◌≤◌, ◌∷◌, ◌++◌, List, All, ap, sym, subst, ◌∙◌, arith}
use Rattle.std.proofs.lemmas.Grind.{common_steps}
use Rattle.std.proofs.lemmas.List.{map-append}
use Rattle.std.proofs.lemmas.List.Elements.{All-head}
use Rattle.smallvec.specs.SmallVec.{SmallVec}
use Rattle.bb_cnf.specs.declared.clauses.Lit.{Lit}
use Rattle.bb_cnf.specs.Clauses.{Formula, HasVariablesWithin, lists_of}
use Rattle.bb_expand.proofs.Pieces.{all_right}
use Rattle.bb_expand.proofs.samples.push_all.Goals as goal

-- each variable of a clause is from 1 to vars
abbrev Fits : ℕ → List Lit → Type 0
Fits vars = All (λ l. (1 ≤ l.var) × (l.var ≤ vars))

next_fits : (vars : ℕ) (before after : List (SmallVec Lit)) (clause : SmallVec Lit) → HasVariablesWithin vars (lists_of (before ++ clause ∷ after)) → Fits vars clause.items
next_fits vars before after clause within =
    All-head (Fits vars) clause.items (lists_of after) (all_right (Fits vars) (lists_of before) (clause.items ∷ lists_of after)
    (subst (All (Fits vars)) (map-append (λ (c : SmallVec Lit). c.items) before (clause ∷ after)) within))

pub push-requires : goal.push-requires
push-requires c =
    let vars = c.args.solver.now.vars in
    let next : c.loop-clause.clause-iterator.rest.items ≡ c.in-Some.clause ∷ c.next.new.self.rest.items = grind (arith, common_steps, c.in-Some.ensures.steps) in
    let all = sym c.loop-clause.invariant.all ∙ ap (λ l. c.loop-clause.yielded ++ l) next in
    subst (λ n. Fits n c.in-Some.clause.items) (sym (ap (λ (f : Formula). f.vars) c.loop-clause.invariant.pushed))
    (next_fits vars c.loop-clause.yielded c.next.new.self.rest.items c.in-Some.clause (subst (λ l. HasVariablesWithin vars (lists_of l)) all c.requires.within))
