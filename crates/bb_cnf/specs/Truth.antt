-- Assignments: a bit for each variable. A clause is true where one of its literals is.
use Rattle.std.specs.Prelude.{◌≡◌, ℕ, zero, suc, Bool, true, false, not, if◌then◌else◌, List, length, slice_index_or, All, Any}
use Rattle.bb_cnf.specs.declared.clauses.Lit.{Lit}
use Rattle.bb_cnf.specs.Clauses.{Literals, Formula}

-- the literal's bit
abbrev pub literal_bit : (ℕ → Bool) → Lit → Bool
literal_bit v l = if l.neg then not (v l.var) else v l.var

-- one of the literals is true
abbrev pub IsTrueClause : (ℕ → Bool) → List Lit → Type 0
IsTrueClause v lits = Any (λ l. literal_bit v l ≡ true) lits

-- the assignment makes each clause true
abbrev pub Satisfies : (ℕ → Bool) → List (List Lit) → Type 0
Satisfies v clauses = All (IsTrueClause v) clauses

-- one of a set of literals is true
pub record IsTrueUnder (v : ℕ → Bool) (c : Literals) : Type 0 where
  pub literal : Lit
  pub member : c literal ≡ true
  pub holds : literal_bit v literal ≡ true

-- the assignment that a list of bits gives, the bit of the variable 1 first; 0 where the list has no bit
abbrev pub assignment_of : List Bool → ℕ → Bool
assignment_of bits zero = false
assignment_of bits (suc x) = slice_index_or bits x false

-- a bit for each variable, with which all clauses are true
abbrev pub IsModel : List Bool → Formula → Type 0
IsModel bits formula = (length bits ≡ formula.vars) × Satisfies (assignment_of bits) formula.clauses

-- no assignment makes all clauses true
abbrev pub HaveNoModel : List (List Lit) → Type 0
HaveNoModel clauses = (v : ℕ → Bool) → Satisfies v clauses → ⊥
