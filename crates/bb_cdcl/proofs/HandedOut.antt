-- What the steps derive once they are numbered.
use Rattle.std.proofs.Common.{◌≡◌, ◌≤◌, ℕ, ◌+◌, Some, IsSome, IsSomeAnd, List, length, map, All, refl, sym, ◌∙◌, ap, subst, arith, length-append}
use Rattle.std.proofs.lemmas.List.{length-map}
use Rattle.smallvec.specs.SmallVec.{SmallVec}
use Rattle.bb_cnf.specs.declared.clauses.Lit.{Lit}
use Rattle.bb_cnf.specs.declared.refutation.Step.{Step}
use Rattle.bb_cnf.specs.Clauses.{literals_of, lists_of}
use Rattle.bb_cnf.specs.Chains.{derived, EndsEmpty, IsRefutation}
use Rattle.bb_cnf.specs.Lines.{step_numbers}
use Rattle.bb_cdcl.specs.declared.state.State.{State}
use Rattle.bb_cdcl.specs.Inside.Dates.{derived_with, numbers_after, AreBelow}
use Rattle.bb_cdcl.specs.Inside.Outcomes.{Derive}
use Rattle.bb_cdcl.specs.Inside.States.{all_clauses, IsDerived, Refutes}
use Rattle.bb_cdcl.proofs.Moved.{derived_by}
use Rattle.bb_cdcl.proofs.Dates.{dated_below, as_many}

-- no number is too large
pub short : (given : List (List Lit)) (s : State) (n bound : ℕ) → n ≡ length given → IsDerived given s → n + length s.learned.items ≤ bound → All (λ d. AreBelow bound (numbers_after n d)) s.steps.items
short given s n bound is before most =
    let more = length-map s.learned.items (λ (clause : SmallVec Lit). clause.items) in
    let all = length-append given (lists_of s.learned.items) in
    subst (λ k. All (λ d. AreBelow bound (numbers_after k d)) s.steps.items) (sym is)
    (dated_below given (all_clauses given s) s.steps.items bound before.derives (omega (arith, more, all, is, most)))

same_derived : (given : List (List Lit)) (s : State) (n : ℕ) (steps : List Step) → n ≡ length given → IsDerived given s → map step_numbers steps ≡ map (numbers_after n) s.steps.items
    → derived (map literals_of given) steps ≡ Some (map literals_of (all_clauses given s))
same_derived given s n steps is before same =
    derived_by (map literals_of given) steps ∙ ap (derived_with (map literals_of given)) (same ∙ ap (λ k. map (numbers_after k) s.steps.items) is) ∙ before.derives.derives

same_count : (s : State) (n : ℕ) (steps : List Step) → map step_numbers steps ≡ map (numbers_after n) s.steps.items → length steps ≡ length s.steps.items
same_count s n steps same = sym (length-map steps step_numbers) ∙ ap length same ∙ length-map s.steps.items (numbers_after n)

pub refutes : (given : List (List Lit)) (s : State) (n : ℕ) (steps : List Step) → n ≡ length given → Refutes given s → map step_numbers steps ≡ map (numbers_after n) s.steps.items
    → IsRefutation given steps
refutes given s n steps is before same =
    let count = same_count s n steps same in
    let some = before.some in (
      omega (arith, count, some),
      subst (λ o. IsSomeAnd o EndsEmpty) (sym (same_derived given s n steps is before.derived same)) before.empty,
    )

pub enough : (given : List (List Lit)) (s : State) (n : ℕ) (steps : List Step) → IsDerived given s → map step_numbers steps ≡ map (numbers_after n) s.steps.items
    → length s.learned.items ≤ length steps
enough given s n steps before same =
    let count = same_count s n steps same in
    let more = length-map s.learned.items (λ (clause : SmallVec Lit). clause.items) in
    let all = length-append given (lists_of s.learned.items) in
    let whole = as_many given (all_clauses given s) s.steps.items before.derives in
    omega (arith, count, more, all, whole)

pub derive : (given : List (List Lit)) (s : State) (n : ℕ) (steps : List Step) → n ≡ length given → IsDerived given s → map step_numbers steps ≡ map (numbers_after n) s.steps.items
    → Derive given steps
derive given s n steps is before same = subst IsSome (sym (same_derived given s n steps is before same)) refl
