-- Clauses without a model have a refutation. On each branch of a semantic tree, a bit for each variable, some
-- given clause is false. From there to the root: for both bits of a variable there is a clause that is false
-- over the variables up to it, and one of both or their resolvent is false over those before. At the root it is
-- empty, and one more step makes it the last.
use Rattle.std.proofs.Common.{◌≡◌, ◌<◌, ℕ, zero, suc, ◌+◌, ◌-◌, ◌^◌, Bool, true, false, not, ◌&&◌, ◌||◌, ◌⊎◌, if◌then◌else◌, Some, None, IsSomeAnd, option_and_then, List, [], ◌∷◌, ◌++◌, length, map, slice_get, refl, sym, ◌∙◌, ap, ap₂, subst, arith, inl, inr, length-append}
use Rattle.bb_lemmas.proofs.Vectors.{heap}
use Rattle.bb_lemmas.proofs.Places.{got_left, got_right}
use Rattle.bb_cnf.specs.declared.clauses.Lit.{Lit}
use Rattle.bb_cnf.specs.declared.refutation.Step.{Step}
use Rattle.bb_cnf.specs.Clauses.{Literals, literals_of, HasVariablesWithin, positive, negated, same_literal}
use Rattle.bb_cnf.specs.Chains.{resolvent, resolution, chain, made_by, derived, IsEmpty, EndsEmpty}
use Rattle.bb_cnf.specs.Truth.{HaveNoModel}
use Rattle.bb_cnf.specs.Laws.{RefutationsExist}
use Rattle.bb_cnf.proofs.ChainLaws.{steps_in_parts}
use Rattle.bb_cnf.proofs.FalseClauses.{IsFalseWithin, with_bit, false_one, lower, lower_all}
use denote.RawPtr.{null_ptr}

-- a step of its numbers
abbrev step_of : ℕ → (pairs : List (ℕ × ℕ)) → length pairs < 2 ^ 63 → Step
step_of first pairs few = record {
  first = first;
  rest = record { ptr = null_ptr; len = length pairs; cap = length pairs; alloc = heap; items = pairs; ok = (refl, omega arith); small = few };
}

-- the one step that names a clause again, and the one that resolves two
abbrev again : ℕ → Step
again place = step_of place [] (omega arith)

abbrev resolving : ℕ → ℕ → ℕ → Step
resolving place other x = step_of place ((other, x) ∷ []) (omega arith)

-- after the earlier clauses, steps make a clause that is false over the variables up to n
record Reached (earlier : List Literals) (n : ℕ) (v : ℕ → Bool) : Type 0 where
  pub steps : List Step
  pub all : List Literals
  pub derives : derived earlier steps ≡ Some all
  pub keeps : (k : ℕ) (c : Literals) → slice_get earlier k ≡ Some c → slice_get all k ≡ Some c
  pub clause : Literals
  pub place : ℕ
  pub there : slice_get all place ≡ Some clause
  pub is_false : IsFalseWithin n v clause

last_item : {A : Type 0} (xs : List A) (x : A) → slice_get (xs ++ x ∷ []) (length xs) ≡ Some x
last_item xs x = ap (slice_get (xs ++ x ∷ [])) (omega arith) ∙ got_right xs (x ∷ []) 0

-- one step more
one_more : (earlier all : List Literals) (steps : List Step) (step : Step) (c : Literals) → derived earlier steps ≡ Some all → made_by all step ≡ Some c
    → derived earlier (steps ++ step ∷ []) ≡ Some (all ++ c ∷ [])
one_more earlier all steps step c before made =
    steps_in_parts earlier steps (step ∷ [])
    ∙ ap (option_and_then (λ clauses. derived clauses (step ∷ []))) before
    ∙ ap (option_and_then (λ d. derived (all ++ d ∷ []) [])) made

-- both branches' steps
both_steps : (earlier middle all : List Literals) (first second : List Step) → derived earlier first ≡ Some middle → derived middle second ≡ Some all
    → derived earlier (first ++ second) ≡ Some all
both_steps earlier middle all first second one two = steps_in_parts earlier first second ∙ ap (option_and_then (λ clauses. derived clauses second)) one ∙ two

-- the two clauses of a variable resolve
resolves : (c d : Literals) (x : ℕ) → c (positive x) ≡ true → d (negated x) ≡ true → resolution c d x ≡ Some (resolvent c d (positive x) (negated x))
resolves c d x has lacks =
    ap (λ b. if b then Some (resolvent c d (positive x) (negated x)) else (if c (negated x) && d (positive x) then Some (resolvent c d (negated x) (positive x)) else None))
    (ap₂ (λ a b. a && b) has lacks)

resolving_makes : (all : List Literals) (place other x : ℕ) (c d e : Literals) → slice_get all place ≡ Some c → slice_get all other ≡ Some d
    → resolution c d x ≡ Some e → made_by all (resolving place other x) ≡ Some e
resolving_makes all place other x c d e at at_other is =
    ap (option_and_then (λ k. chain all k ((other, x) ∷ []))) at
    ∙ ap (option_and_then (λ k. option_and_then (λ r. chain all r []) (resolution c k x))) at_other
    ∙ ap (option_and_then (λ r. chain all r [])) is

-- a literal of the resolvent is one of both clauses, and not the variable's
from_either : (a b s t : Bool) → ((a && not s) || (b && not t)) ≡ true → ((a ≡ true) × (s ≡ false)) ⊎ ((b ≡ true) × (t ≡ false))
from_either true b false t h = inl (refl, refl)
from_either true true true false h = inr (refl, refl)
from_either true true true true h = absurd (let clash : false ≡ true = h in cc)
from_either true false true t h = absurd (let clash : false ≡ true = h in cc)
from_either false true s false h = inr (refl, refl)
from_either false true s true h = absurd (let clash : false ≡ true = h in cc)
from_either false false s t h = absurd (let clash : false ≡ true = h in cc)

-- the resolvent of the clauses of both bits is false without the variable
resolvent_false : (n : ℕ) (v : ℕ → Bool) (c d : Literals) → IsFalseWithin (suc n) (with_bit v (suc n) false) c → IsFalseWithin (suc n) (with_bit v (suc n) true) d
    → IsFalseWithin n v (resolvent c d (positive (suc n)) (negated (suc n)))
resolvent_false n v c d c_false d_false l member =
    elim (from_either (c l) (d l) (same_literal (positive (suc n)) l) (same_literal (negated (suc n)) l) member) [
      | inl found ↦ lower n v false c c_false l found.0 found.1
      | inr found ↦ lower n v true d d_false l found.0 found.1
    ]

-- from both bits of the variable after n to n
module _ (earlier : List Literals) (n : ℕ) (v : ℕ → Bool) (low : Reached earlier (suc n) (with_bit v (suc n) false)) (high : Reached low.all (suc n) (with_bit v (suc n) true)) where
  by_low : low.clause (positive (suc n)) ≡ false → Reached earlier n v
  by_low lacks = record {
    steps = low.steps;
    all = low.all;
    derives = low.derives;
    keeps = low.keeps;
    clause = low.clause;
    place = low.place;
    there = low.there;
    is_false = lower_all n v false low.clause low.is_false lacks;
  }

  by_high : high.clause (negated (suc n)) ≡ false → Reached earlier n v
  by_high lacks = record {
    steps = low.steps ++ high.steps;
    all = high.all;
    derives = both_steps earlier low.all high.all low.steps high.steps low.derives high.derives;
    keeps = λ k c e. high.keeps k c (low.keeps k c e);
    clause = high.clause;
    place = high.place;
    there = high.there;
    is_false = lower_all n v true high.clause high.is_false lacks;
  }

  by_both : low.clause (positive (suc n)) ≡ true → high.clause (negated (suc n)) ≡ true → Reached earlier n v
  by_both has has_not =
      let x = suc n in
      let e = resolvent low.clause high.clause (positive x) (negated x) in
      let made = resolving_makes high.all low.place high.place x low.clause high.clause e (high.keeps low.place low.clause low.there) high.there (resolves low.clause high.clause x has has_not) in
      record {
        steps = (low.steps ++ high.steps) ++ resolving low.place high.place x ∷ [];
        all = high.all ++ e ∷ [];
        derives = one_more earlier high.all (low.steps ++ high.steps) (resolving low.place high.place x) e
            (both_steps earlier low.all high.all low.steps high.steps low.derives high.derives) made;
        keeps = λ k c h. got_left high.all (e ∷ []) k c (high.keeps k c (low.keeps k c h));
        clause = e;
        place = length high.all;
        there = last_item high.all e;
        is_false = resolvent_false n v low.clause high.clause low.is_false high.is_false;
      }

  by_bits : Reached earlier n v
  by_bits = elim (low.clause (positive (suc n))) as (λ b. low.clause (positive (suc n)) ≡ b → Reached earlier n v) [
    | false ↦ by_low
    | true ↦ λ has. elim (high.clause (negated (suc n))) as (λ b. high.clause (negated (suc n)) ≡ b → Reached earlier n v) [
      | false ↦ by_high
      | true ↦ by_both has
    ] refl
  ] refl

-- the tree below a branch of n bits, with so many variables left
module _ (clauses : List (List Lit)) (none : HaveNoModel clauses) where
  reach : (left n : ℕ) (v : ℕ → Bool) → HasVariablesWithin (n + left) clauses → (earlier : List Literals)
      → ((k : ℕ) (c : Literals) → slice_get (map literals_of clauses) k ≡ Some c → slice_get earlier k ≡ Some c) → Reached earlier n v
  reach zero n v within earlier holds =
      let one = false_one n v clauses (subst (λ m. HasVariablesWithin m clauses) (omega arith) within) none in
      record {
        steps = [];
        all = earlier;
        derives = refl;
        keeps = λ k c e. e;
        clause = one.1;
        place = one.0;
        there = holds one.0 one.1 one.2;
        is_false = one.3;
      }
  reach (suc left) n v within earlier holds =
      let deeper : HasVariablesWithin (suc n + left) clauses = subst (λ m. HasVariablesWithin m clauses) (omega arith) within in
      let low = reach left (suc n) (with_bit v (suc n) false) deeper earlier holds in
      let high = reach left (suc n) (with_bit v (suc n) true) deeper low.all (λ k c e. low.keeps k c (holds k c e)) in
      by_bits earlier n v low high

-- a clause that is false over no variables is empty
false_is_empty : (v : ℕ → Bool) (c : Literals) → IsFalseWithin 0 v c → IsEmpty c
false_is_empty v c all_false l = elim (c l) as (λ b. c l ≡ b → b ≡ false) [
  | false ↦ λ _. refl
  | true ↦ λ member. let known = all_false l member in absurd (omega (arith, known.0, known.1))
] refl

ends_empty : (all : List Literals) (c : Literals) → IsEmpty c → EndsEmpty (all ++ c ∷ [])
ends_empty all c empty =
    let place : length (all ++ c ∷ []) - 1 ≡ length all = omega (arith, length-append all (c ∷ [])) in
    subst (λ o. IsSomeAnd o IsEmpty) (sym (ap (slice_get (all ++ c ∷ [])) place ∙ last_item all c)) empty

pub refutations_exist : RefutationsExist
refutations_exist formula within none =
    let given = map literals_of formula.clauses in
    let root = reach formula.clauses none formula.vars 0 (λ x. false) (subst (λ m. HasVariablesWithin m formula.clauses) (omega arith) within) given (λ k c e. e) in
    let made = one_more given root.all root.steps (again root.place) root.clause root.derives (ap (option_and_then (λ c. chain root.all c [])) root.there) in (
      root.steps ++ again root.place ∷ [],
      (
        omega (arith, length-append root.steps (again root.place ∷ [])),
        subst (λ o. IsSomeAnd o EndsEmpty) (sym made) (ends_empty root.all root.clause (false_is_empty (λ x. false) root.clause root.is_false)),
      ),
    )
