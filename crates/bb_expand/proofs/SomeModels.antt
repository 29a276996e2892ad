-- What can be given by trying: whether a formula has a model, and whether tables agree at all vectors.
use Rattle.std.proofs.Common.{◌⊎◌, ◌<◌, ◌≤◌, ◌∙◌, ℕ, zero, suc, Bool, List, [], ◌∷◌, length, All, Contains, sym, subst, inl, inr, arith}
use Rattle.std.proofs.lemmas.Bool.{cases_lt, true≢false}
use Rattle.std.proofs.lemmas.List.Elements.{All-cons, All-contains, All-nil}
use Rattle.std.proofs.lemmas.List.Folds.{Any-from_list_any, list_any-from_Any}
use Rattle.std.specs.List.{list_any}
use Rattle.bb_lemmas.proofs.Bits.{same_or_not}
use Rattle.bb_lemmas.proofs.Deciding.{Decision}
use Rattle.bb_lemmas.proofs.Members.{contains_here, contains_there, either}
use Rattle.bb_cnf.specs.declared.clauses.Lit.{Lit}
use Rattle.bb_cnf.specs.Clauses.{Formula, HasVariablesWithin}
use Rattle.bb_cnf.specs.Laws.{ModelLaws}
use Rattle.bb_cnf.specs.Truth.{HaveNoModel, IsModel, IsTrueClause, Satisfies, assignment_of, literal_bit}
use Rattle.bb_cdcl.specs.Inside.Outcomes.{HasModel}
use Rattle.bb_bits.specs.Tables.{TableBits}
use Rattle.bb_subst.specs.Distinguishing.{AreEquivalentAt, FailAt}
use Rattle.bb_net.specs.Equivalence.{IsRight, IsWrong}
use Rattle.bb_net.specs.Netlists.{Netlist}
use Rattle.bb_net.specs.Values.{flat_with}
use Rattle.bb_expand.specs.Expansions.{all_vectors}
use Rattle.bb_expand.specs.Laws.{VectorsAreAll}

-- one thing holds of all elements, or the other of one of them
pub all_or_one : {A : Type 0} (P N : A → Type 0) → ((x : A) → P x ⊎ N x) → (xs : List A) → All P xs ⊎ ((x : A) × Contains xs x × N x)
all_or_one P N report [] = inl (All-nil P)
all_or_one P N report (x ∷ xs) = from (report x) (all_or_one P N report xs)
  where
    from : P x ⊎ N x → All P xs ⊎ ((y : _) × Contains xs y × N y) → All P (x ∷ xs) ⊎ ((y : _) × Contains (x ∷ xs) y × N y)
    from (inl p) (inl rest) = inl (All-cons P x xs p rest)
    from (inl p) (inr one) = inr (one.0, contains_there x xs one.0 one.1, one.2)
    from (inr n) rest = inr (x, contains_here x xs, n)

-- a clause is true, or is not
true_or_not : (v : ℕ → Bool) (lits : List Lit) → Decision (IsTrueClause v lits)
true_or_not v lits = elim (either (list_any (literal_bit v) lits)) [
  | inl one ↦ inl (Any-from_list_any (literal_bit v) lits one)
  | inr none ↦ inr (λ any. true≢false (sym (list_any-from_Any (literal_bit v) lits any) ∙ none))
]

satisfied_or_not : (v : ℕ → Bool) (clauses : List (List Lit)) → Decision (Satisfies v clauses)
satisfied_or_not v clauses = elim (all_or_one (IsTrueClause v) (λ c. IsTrueClause v c → ⊥) (true_or_not v) clauses) [
  | inl all ↦ inl all
  | inr one ↦ inr (λ all. one.2 (All-contains (IsTrueClause v) clauses one.0 all one.1))
]

-- a formula has a model, or no assignment makes its clauses true
pub model_or_none : ModelLaws → VectorsAreAll → (formula : Formula) → HasVariablesWithin formula.vars formula.clauses → HasModel formula ⊎ HaveNoModel formula.clauses
model_or_none models each formula within =
    elim (all_or_one (λ bits. IsModel bits formula → ⊥) (λ bits. IsModel bits formula) report (all_vectors formula.vars)) [
      | inl none ↦ inr (λ v holds.
          let some = models.has_list v formula within holds in
          let there = subst (λ n. Contains (all_vectors n) some.0) some.1.0 (each some.0) in
          All-contains (λ bits. IsModel bits formula → ⊥) (all_vectors formula.vars) some.0 none there some.1)
      | inr one ↦ inl (one.0, one.2)
    ]
  where
    report : (bits : List Bool) → (IsModel bits formula → ⊥) ⊎ IsModel bits formula
    report bits = from (cases_lt (length bits) formula.vars) (cases_lt formula.vars (length bits)) (satisfied_or_not (assignment_of bits) formula.clauses)
      where
        from : (length bits < formula.vars) ⊎ (formula.vars ≤ length bits) → (formula.vars < length bits) ⊎ (length bits ≤ formula.vars) → Decision (Satisfies (assignment_of bits) formula.clauses)
            → (IsModel bits formula → ⊥) ⊎ IsModel bits formula
        from (inl less) more holds = inl (λ model. let long = model.0 in omega (arith, less, long))
        from (inr most) (inl more) holds = inl (λ model. let long = model.0 in omega (arith, more, long))
        from (inr most) (inr least) (inl holds) = inr (omega (arith, most, least), holds)
        from (inr most) (inr least) (inr fails) = inl (λ model. fails model.1)

-- the first outputs are right, or one of them is wrong
right_or_wrong : (spec imp : Netlist) (x bits : List Bool) (n : ℕ) → ((j : ℕ) → j < n → IsRight spec imp x bits j) ⊎ ((j : ℕ) × (j < n) × IsWrong spec imp x bits j)
right_or_wrong spec imp x bits zero = inl (λ j less. absurd (omega (arith, less)))
right_or_wrong spec imp x bits (suc n) = from (right_or_wrong spec imp x bits n) (same_or_not _ _)
  where
    from : ((j : ℕ) → j < n → IsRight spec imp x bits j) ⊎ ((j : ℕ) × (j < n) × IsWrong spec imp x bits j) → IsRight spec imp x bits n ⊎ IsWrong spec imp x bits n
        → ((j : ℕ) → j < suc n → IsRight spec imp x bits j) ⊎ ((j : ℕ) × (j < suc n) × IsWrong spec imp x bits j)
    from (inr one) last = inr (one.0, omega (arith, one.1), one.2)
    from (inl all) (inr wrong) = inr (n, omega arith, wrong)
    from (inl all) (inl right) = inl (λ j less. by j less (cases_lt j n))
      where
        by : (j : ℕ) → j < suc n → (j < n) ⊎ (n ≤ j) → IsRight spec imp x bits j
        by j less (inl below) = all j below
        by j less (inr above) = subst (IsRight spec imp x bits) (omega (arith, less, above)) right

-- tables agree at a vector, or some output is wrong there
pub agree_or_fail : (spec imp : Netlist) (tables : List TableBits) (x : List Bool) → AreEquivalentAt spec imp tables x ⊎ FailAt spec imp tables x
agree_or_fail spec imp tables x = right_or_wrong spec imp x (flat_with imp x tables) (length imp.outs)
