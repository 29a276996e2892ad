-- The text of clauses and of a refutation. A clause's line is `clause N L L ..`, N its number and each literal
-- a signed decimal; a step's line is `step N F C/V C/V ..`, N the number of the clause that it makes, F the
-- first clause, and each pair the clause and the variable of a resolution. Each line ends with a line feed.
use Rattle.std.specs.Prelude.{ℕ, ◌+◌, ◌^◌, ◌<◌, if◌then◌else◌, List, [], ◌∷◌, ◌++◌, length, All, codes, decimal}
use Rattle.std.specs.List.{flat_map}
use Rattle.bb_cnf.specs.declared.clauses.Lit.{Lit}
use Rattle.bb_cnf.specs.declared.refutation.Step.{Step}

-- a blank, and the literal with its sign
abbrev pub literal_text : Lit → List ℕ
literal_text l = if l.neg then codes " -" ++ decimal l.var else codes " " ++ decimal l.var

abbrev pub clause_line : ℕ → List Lit → List ℕ
clause_line n lits = codes "clause " ++ decimal n ++ flat_map literal_text lits ++ codes "\n"

-- a blank, and the clause and the variable of a resolution
abbrev pub pair_text : ℕ × ℕ → List ℕ
pair_text pair = codes " " ++ decimal pair.0 ++ codes "/" ++ decimal pair.1

abbrev pub step_line : ℕ → Step → List ℕ
step_line n step = codes "step " ++ decimal n ++ codes " " ++ decimal step.first ++ flat_map pair_text step.rest.items ++ codes "\n"

-- lines of clauses, of which the first has the number n
abbrev pub clause_lines : ℕ → List (List Lit) → List ℕ
clause_lines n [] = []
clause_lines n (c ∷ clauses) = clause_line n c ++ clause_lines (n + 1) clauses

-- lines of steps, of which the first makes the clause of number n
abbrev pub step_lines : ℕ → List Step → List ℕ
step_lines n [] = []
step_lines n (step ∷ steps) = step_line n step ++ step_lines (n + 1) steps

-- the lines of the clauses, and then of the steps
abbrev pub proof_lines : List (List Lit) → List Step → List ℕ
proof_lines clauses steps = clause_lines 0 clauses ++ step_lines (length clauses) steps

-- what a step's line gives of the step: its numbers
abbrev pub step_numbers : Step → ℕ × List (ℕ × ℕ)
step_numbers step = (step.first, step.rest.items)

-- a number that a decimal writes whole: of a longer one `decimal` has the last 64 digits alone
abbrev pub IsShort : ℕ → Type 0
IsShort n = n < 10 ^ 64

-- each variable is short
abbrev pub IsShortClause : List Lit → Type 0
IsShortClause lits = All (λ l. IsShort l.var) lits

-- each number is short
abbrev pub IsShortStep : Step → Type 0
IsShortStep step = IsShort step.first × All (λ pair. IsShort pair.0 × IsShort pair.1) step.rest.items

-- all variables of the clauses are short, and all numbers of the steps
abbrev pub HasShortNumbers : List (List Lit) → List Step → Type 0
HasShortNumbers clauses steps = All IsShortClause clauses × All IsShortStep steps
