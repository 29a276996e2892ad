-- Clause numbers when more given clauses come. Derived clauses are numbered after all given ones, so numbers of given
-- ones stay, and the others grow by as many as come.
use Rattle.std.specs.Prelude.{◌≡◌, ℕ, ◌+◌, if◌then◌else◌, nat_lt, Some, List, ◌++◌, length, map}
use Rattle.bb_cnf.specs.declared.refutation.Step.{Step}
use Rattle.bb_cnf.specs.Clauses.{Literals}
use Rattle.bb_cnf.specs.Chains.{derived}
use Rattle.bb_cnf.specs.Lines.{step_numbers}

-- a clause's number when `more` given clauses come after the first `given` ones
abbrev pub moved_number : ℕ → ℕ → ℕ → ℕ
moved_number given more n = if nat_lt n given then n else n + more

abbrev pub moved_pair : ℕ → ℕ → ℕ × ℕ → ℕ × ℕ
moved_pair given more pair = (moved_number given more pair.0, pair.1)

-- the numbers of a step
abbrev pub moved_numbers : ℕ → ℕ → ℕ × List (ℕ × ℕ) → ℕ × List (ℕ × ℕ)
moved_numbers given more numbers = (moved_number given more numbers.0, map (moved_pair given more) numbers.1)

-- steps that derive clauses derive them, with moved numbers, when more given clauses come before the derived ones
abbrev pub StepsMove : Type 0
StepsMove = (given more learned : List Literals) (steps moved : List Step)
    → map step_numbers moved ≡ map (moved_numbers (length given) (length more)) (map step_numbers steps)
    → derived given steps ≡ Some (given ++ learned) → derived (given ++ more) moved ≡ Some ((given ++ more) ++ learned)
