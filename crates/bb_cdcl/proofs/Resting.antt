-- A solver between two searches.
use Rattle.std.proofs.Common.{◌≡◌, ℕ, ◌+◌, ◌-◌, Bool, Option, List, [], ◌∷◌, ◌++◌, length, All, sym, ◌∙◌, ap, subst, arith, length-append}
use Rattle.std.proofs.lemmas.List.{length-map, take_all, take-append-le}
use Rattle.smallvec.specs.SmallVec.{SmallVec}
use Rattle.bb_cnf.specs.declared.clauses.Lit.{Lit}
use Rattle.bb_cnf.specs.Clauses.{Formula, lists_of, HasVariablesWithin}
use Rattle.bb_cnf.specs.Truth.{assignment_of, Satisfies, IsModel}
use Rattle.bb_cdcl.specs.declared.state.State.{State}
use Rattle.bb_cdcl.specs.Inside.Events.{IsSatisfied}
use Rattle.bb_cdcl.specs.Inside.Outcomes.{formula}
use Rattle.bb_cdcl.specs.Inside.Resting.{IsResting}
use Rattle.bb_cdcl.specs.Inside.States.{IsDerived, Rests}

-- a clause came
pub rests_longer : (known : ℕ) (f : Formula) (s : State) (c : List Lit) → IsResting known f s → IsResting known (formula f.vars (f.clauses ++ c ∷ [])) s
rests_longer known f s c rests =
    let longer = length-append f.clauses (c ∷ []) in
    let within = rests.known_within in
    record {
      known_within = omega (arith, longer, within);
      derived = subst (λ gs. IsDerived gs s) (sym (take-append-le known f.clauses (c ∷ []) within)) rests.derived;
      ready = rests.ready;
      few = rests.few;
    }

-- after a search all clauses are known
pub rests_again : (given : List (SmallVec Lit)) (vars known : ℕ) (f : Formula) (old new : State) → formula vars (lists_of given) ≡ f → known ≡ length given → length old.trail.values.items ≡ vars + 1
    → Rests (lists_of given) old new → IsResting known f new
rests_again given vars known f old new is count wide rests =
    let all = length-map given (λ (clause : SmallVec Lit). clause.items) in
    let same = rests.pauses.same in
    subst (λ g. IsResting known g new) is (record {
      known_within = omega (arith, all, count);
      derived = subst (λ gs. IsDerived gs new) (sym (take_all known (lists_of given) (omega (arith, all, count)))) rests.pauses.derived;
      ready = rests.pauses.ready;
      few = omega (arith, same, wide);
    })

-- and the bits are a model
pub model_of : (given : List (SmallVec Lit)) (vars : ℕ) (f : Formula) (old new : State) (bits : List Bool) (values : List (Option Bool)) → formula vars (lists_of given) ≡ f
    → values ≡ new.trail.values.items → length old.trail.values.items ≡ vars + 1 → HasVariablesWithin vars (lists_of given) → Rests (lists_of given) old new → length bits + 1 ≡ length values
    → ((clauses : List (List Lit)) → HasVariablesWithin (length values - 1) clauses → All (IsSatisfied values) clauses → Satisfies (assignment_of bits) clauses) → IsModel bits f
model_of given vars f old new bits values is held wide within rests long satisfies =
    let count : length values ≡ vars + 1 = ap length held ∙ rests.pauses.same ∙ wide in
    let below : vars ≡ length values - 1 = omega (arith, count) in
    subst (IsModel bits) is (
      omega (arith, long, count),
      satisfies (lists_of given) (subst (λ n. HasVariablesWithin n (lists_of given)) below within) (subst (λ vs. All (IsSatisfied vs) (lists_of given)) (sym held) rests.satisfied),
    )
