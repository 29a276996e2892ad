-- What a reader expects of chains, refutations, assignments and models, and of the lines of a proof.
use Rattle.std.specs.Prelude.{◌≡◌, ◌↔◌, ℕ, Bool, Some, IfSome, option_and_then, List, ◌++◌, length, map, All, Contains}
use Rattle.bb_cnf.specs.declared.clauses.Lit.{Lit}
use Rattle.bb_cnf.specs.declared.refutation.Step.{Step}
use Rattle.bb_cnf.specs.Clauses.{Literals, literals_of, Formula, HasVariablesWithin}
use Rattle.bb_cnf.specs.Chains.{resolution, chain, made_by, derived, IsRefutation}
use Rattle.bb_cnf.specs.Lines.{proof_lines, step_numbers, HasShortNumbers}
use Rattle.bb_cnf.specs.Truth.{IsTrueClause, Satisfies, IsTrueUnder, HaveNoModel, assignment_of, IsModel}

-- chains, and lists of steps
pub record ChainLaws : Type 0 where
  -- one chain after another
  pub chain_in_parts : (earlier : List Literals) (c : Literals) (first second : List (ℕ × ℕ)) → chain earlier c (first ++ second) ≡ option_and_then (λ d. chain earlier d second) (chain earlier c first)
  -- what a chain or a step makes stays the same where more clauses come after the earlier ones
  pub chain_with_more : (earlier more : List Literals) (c d : Literals) (rest : List (ℕ × ℕ)) → chain earlier c rest ≡ Some d → chain (earlier ++ more) c rest ≡ Some d
  pub step_with_more : (earlier more : List Literals) (step : Step) (c : Literals) → made_by earlier step ≡ Some c → made_by (earlier ++ more) step ≡ Some c
  -- some steps after others
  pub steps_in_parts : (earlier : List Literals) (first second : List Step) → derived earlier (first ++ second) ≡ option_and_then (λ all. derived all second) (derived earlier first)

-- under one assignment
pub record SoundnessLaws : Type 0 where
  -- a list's set of literals is true where one of the list is
  pub clause : (v : ℕ → Bool) (lits : List Lit) → IsTrueUnder v (literals_of lits) ↔ IsTrueClause v lits
  -- where clauses are true, so is each resolvent of them, what a chain makes of them, and all that steps derive
  pub resolvent : (v : ℕ → Bool) (c d : Literals) (x : ℕ) → IsTrueUnder v c → IsTrueUnder v d → IfSome (resolution c d x) (IsTrueUnder v)
  pub chain : (v : ℕ → Bool) (earlier : List Literals) → All (IsTrueUnder v) earlier → (rest : List (ℕ × ℕ)) (c : Literals) → IsTrueUnder v c → IfSome (chain earlier c rest) (IsTrueUnder v)
  pub derived : (v : ℕ → Bool) (steps : List Step) (earlier : List Literals) → All (IsTrueUnder v) earlier → IfSome (derived earlier steps) (All (IsTrueUnder v))
  -- a refutation leaves no assignment that makes all clauses true
  pub refutation : (clauses : List (List Lit)) (steps : List Step) → IsRefutation clauses steps → HaveNoModel clauses

-- resolution is complete for refutations (J. A. Robinson, 1965): clauses that no assignment makes all true have a refutation
abbrev pub RefutationsExist : Type 0
RefutationsExist = (formula : Formula) → HasVariablesWithin formula.vars formula.clauses → HaveNoModel formula.clauses
    → (steps : List Step) × IsRefutation formula.clauses steps

-- the lines of a proof give back its clauses and the numbers of its steps, where a decimal writes each number whole
abbrev pub LinesFixProofs : Type 0
LinesFixProofs = (clauses others : List (List Lit)) (steps more : List Step) → HasShortNumbers clauses steps → HasShortNumbers others more
    → proof_lines clauses steps ≡ proof_lines others more → (clauses ≡ others) × (map step_numbers steps ≡ map step_numbers more)

-- assignments and models
pub record ModelLaws : Type 0 where
  -- two lists of clauses in one
  pub both_lists : (v : ℕ → Bool) (first second : List (List Lit)) → Satisfies v (first ++ second) ↔ (Satisfies v first × Satisfies v second)
  -- fewer clauses are satisfied as well
  pub fewer_clauses : (v : ℕ → Bool) (clauses more : List (List Lit)) → All (Contains more) clauses → Satisfies v more → Satisfies v clauses
  -- further bits change nothing for clauses over the first ones
  pub longer_list : (bits more : List Bool) (clauses : List (List Lit)) → HasVariablesWithin (length bits) clauses → (Satisfies (assignment_of (bits ++ more)) clauses ↔ Satisfies (assignment_of bits) clauses)
  -- where an assignment makes all clauses true, a list of bits is a model
  pub has_list : (v : ℕ → Bool) (formula : Formula) → HasVariablesWithin formula.vars formula.clauses → Satisfies v formula.clauses → (bits : List Bool) × IsModel bits formula
