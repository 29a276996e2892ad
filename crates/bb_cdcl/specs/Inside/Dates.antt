-- Steps that were made while given clauses still came. Each keeps the numbers that it was made with.
use Rattle.std.specs.Prelude.{◌≡◌, ℕ, ◌-◌, ◌<◌, ◌≤◌, Option, Some, option_and_then, List, [], ◌∷◌, ◌++◌, length, map, slice_get, All}
use Rattle.bb_cnf.specs.declared.clauses.Lit.{Lit}
use Rattle.bb_cnf.specs.Clauses.{Literals, literals_of}
use Rattle.bb_cnf.specs.Chains.{chain}
use Rattle.bb_cnf.specs.Lines.{step_numbers}
use Rattle.bb_cdcl.specs.declared.numbers.DatedStep.{DatedStep}
use Rattle.bb_cdcl.specs.Laws.Numbers.{moved_numbers}

-- the clause that a step of these numbers makes
abbrev pub made_with : List Literals → ℕ × List (ℕ × ℕ) → Option Literals
made_with earlier numbers = option_and_then (λ c. chain earlier c numbers.1) (slice_get earlier numbers.0)

-- all clauses, with those that steps of these numbers make after the earlier ones
abbrev pub derived_with : List Literals → List (ℕ × List (ℕ × ℕ)) → Option (List Literals)
derived_with earlier [] = Some earlier
derived_with earlier (numbers ∷ rest) = option_and_then (λ c. derived_with (earlier ++ c ∷ []) rest) (made_with earlier numbers)

-- the numbers of the step when `given` given clauses come before it
abbrev pub numbers_after : ℕ → DatedStep → ℕ × List (ℕ × ℕ)
numbers_after given dated = moved_numbers dated.given (given - dated.given) (step_numbers dated.step)

-- each is below a bound
abbrev pub AreBelow : ℕ → ℕ × List (ℕ × ℕ) → Type 0
AreBelow bound numbers = (numbers.0 < bound) × All (λ pair. pair.0 < bound) numbers.1

-- With the given clauses so far the steps derive all clauses.
pub record AreDerived (given : List (List Lit)) (dated : List DatedStep) (all : List (List Lit)) : Type 0 where
  pub early : All (λ d. d.given ≤ length given) dated
  pub derives : derived_with (map literals_of given) (map (numbers_after (length given)) dated) ≡ Some (map literals_of all)
