-- Resolution (J. A. Robinson, 1965) and refutations made of it. Of two clauses, one with a variable and one
-- with its negation, the resolvent has the other literals of both. A refutation is a list of steps; each makes
-- a clause from earlier ones, and the last makes the empty clause.
use Rattle.std.specs.Prelude.{◌≡◌, ℕ, ◌-◌, ◌<◌, false, ◌&&◌, if◌then◌else◌, Option, Some, None, IsSomeAnd, option_and_then, List, [], ◌∷◌, ◌++◌, length, map, slice_get}
use Rattle.bb_cnf.specs.declared.clauses.Lit.{Lit}
use Rattle.bb_cnf.specs.declared.refutation.Step.{Step}
use Rattle.bb_cnf.specs.Clauses.{Literals, literals_of, positive, negated, without_literal, union}

-- one clause has the literal m and the other has n, its negation: each loses its own, and the rest is joined
abbrev pub resolvent : Literals → Literals → Lit → Lit → Literals
resolvent c d m n = union (without_literal c m) (without_literal d n)

-- the current clause c resolved with the clause d on the variable x; None where they do not have x with two
-- signs. Where both have it with both signs, c loses x and d loses its negation.
abbrev pub resolution : Literals → Literals → ℕ → Option Literals
resolution c d x =
    if c (positive x) && d (negated x) then Some (resolvent c d (positive x) (negated x))
    else (if c (negated x) && d (positive x) then Some (resolvent c d (negated x) (positive x)) else None)

-- what a chain of resolutions, each a clause's number and a variable, makes of the current clause; None where
-- no earlier clause has the number, or the resolution is none
abbrev pub chain : List Literals → Literals → List (ℕ × ℕ) → Option Literals
chain earlier c [] = Some c
chain earlier c (pair ∷ rest) =
    option_and_then (λ d. option_and_then (λ e. chain earlier e rest) (resolution c d pair.1)) (slice_get earlier pair.0)

-- the clause that a step makes
abbrev pub made_by : List Literals → Step → Option Literals
made_by earlier step = option_and_then (λ c. chain earlier c step.rest.items) (slice_get earlier step.first)

-- all clauses, with those that the steps make after the earlier ones
abbrev pub derived : List Literals → List Step → Option (List Literals)
derived earlier [] = Some earlier
derived earlier (step ∷ steps) = option_and_then (λ c. derived (earlier ++ c ∷ []) steps) (made_by earlier step)

-- it has no literal
abbrev pub IsEmpty : Literals → Type 0
IsEmpty c = (l : Lit) → c l ≡ false

-- the last clause is empty
abbrev pub EndsEmpty : List Literals → Type 0
EndsEmpty clauses = IsSomeAnd (slice_get clauses (length clauses - 1)) IsEmpty

-- a refutation of the clauses: at least one step, each step makes a clause, and the last makes the empty one
abbrev pub IsRefutation : List (List Lit) → List Step → Type 0
IsRefutation clauses steps = (0 < length steps) × IsSomeAnd (derived (map literals_of clauses) steps) EndsEmpty
