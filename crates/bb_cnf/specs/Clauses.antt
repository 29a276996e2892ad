-- A clause is a set of literals; a literal is a variable, counted from 1, or its negation. So a clause is
-- given by which literals it has, and the order and the repetition of a list's literals do not count.
use Rattle.std.specs.Prelude.{ℕ, ◌≤◌, Bool, true, false, not, ◌&&◌, ◌||◌, ◌==◌, List, All, map}
use Rattle.std.specs.List.{list_any}
use Rattle.smallvec.specs.SmallVec.{SmallVec}
use Rattle.bb_cnf.specs.declared.clauses.Lit.{Lit}
use mathlib.Core.Bool.{beq}

-- the variable itself, and its negation
abbrev pub positive : ℕ → Lit
positive x = record { var = x; neg = false }

abbrev pub negated : ℕ → Lit
negated x = record { var = x; neg = true }

-- one variable with one sign
abbrev pub same_literal : Lit → Lit → Bool
same_literal a b = (a.var == b.var) && beq a.neg b.neg

-- a set of literals: is this one in it
abbrev pub Literals : Type 0
Literals = Lit → Bool

-- the set of a list's literals
abbrev pub literals_of : List Lit → Literals
literals_of lits l = list_any (λ m. same_literal m l) lits

-- the set without one literal
abbrev pub without_literal : Literals → Lit → Literals
without_literal c m l = c l && not (same_literal m l)

-- both sets in one
abbrev pub union : Literals → Literals → Literals
union c d l = c l || d l

-- a list of clauses over variables from 1 to vars, in the order of their numbers, which count from 0
pub record Formula : Type 0 where
  pub vars : ℕ
  pub clauses : List (List Lit)

-- the lists of stored clauses
abbrev pub lists_of : List (SmallVec Lit) → List (List Lit)
lists_of clauses = map (λ clause. clause.items) clauses

-- each variable is from 1 to vars
abbrev pub HasVariablesWithin : ℕ → List (List Lit) → Type 0
HasVariablesWithin vars clauses = All (All (λ l. (1 ≤ l.var) × (l.var ≤ vars))) clauses
