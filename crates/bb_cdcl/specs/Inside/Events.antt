-- The status of a clause under a partial assignment.
use Rattle.std.specs.Prelude.{ℕ, ◌≡◌, ◌<◌, ◌||◌, Bool, true, Option, Some, None, List, slice_get, length, Any, All}
use Rattle.bb_cnf.specs.declared.clauses.Lit.{Lit}
use Rattle.bb_cnf.specs.Clauses.{literals_of, same_literal}
use Rattle.bb_cdcl.specs.declared.examination.ClauseStatus.{ClauseStatus}
use Rattle.bb_cdcl.specs.declared.examination.ClauseStatus.TheVariants as statuses
use Rattle.bb_cdcl.specs.declared.events.Event.{Event}
use Rattle.bb_cdcl.specs.declared.events.Event.TheVariants as events
use Rattle.bb_cdcl.specs.Inside.Trails.{opposite, value_at, is_false}

-- all its literals are false
abbrev pub IsFalseClause : List (Option Bool) → List Lit → Type 0
IsFalseClause values clause = (m : Lit) → literals_of clause m ≡ true → is_false values m ≡ true

-- one literal has no value, and the others are false
pub record IsUnitClause (values : List (Option Bool)) (clause : List Lit) (l : Lit) : Type 0 where
  pub own : literals_of clause l ≡ true
  pub free : value_at values l.var ≡ None
  pub others : (m : Lit) → literals_of clause m ≡ true → (same_literal l m || is_false values m) ≡ true

-- the literals so far are false, but for the free one
abbrev pub IsSoFar : List (Option Bool) → List Lit → Option Lit → Type 0
IsSoFar values prefix None = IsFalseClause values prefix
IsSoFar values prefix (Some l) = IsUnitClause values prefix l

-- one of its literals has no value
pub record IsOpenClause (values : List (Option Bool)) (clause : List Lit) (l : Lit) : Type 0 where
  pub own : literals_of clause l ≡ true
  pub free : value_at values l.var ≡ None

-- one of its literals is true
abbrev pub IsSatisfied : List (Option Bool) → List Lit → Type 0
IsSatisfied values clause = Any (λ l. is_false values (opposite l) ≡ true) clause

abbrev pub HasStatus : List (Option Bool) → List Lit → ClauseStatus → Type 0
HasStatus values clause (statuses.True l) = IsSatisfied values clause
HasStatus values clause statuses.False = IsFalseClause values clause
HasStatus values clause (statuses.Unit l) = IsUnitClause values clause l
HasStatus values clause (statuses.Open l) = IsOpenClause values clause l

-- the clause of this number is false
pub record IsConflict (clauses : List (List Lit)) (values : List (Option Bool)) (k : ℕ) : Type 0 where
  pub clause : List Lit
  pub occurs : slice_get clauses k ≡ Some clause
  pub is_false : IsFalseClause values clause

-- the clause of this number implies the literal
pub record IsUnit (clauses : List (List Lit)) (values : List (Option Bool)) (l : Lit) (k : ℕ) : Type 0 where
  pub clause : List Lit
  pub occurs : slice_get clauses k ≡ Some clause
  pub is_unit : IsUnitClause values clause l
  pub in_range : l.var < length values

abbrev pub IsFree : List (Option Bool) → Lit → Type 0
IsFree values l = (value_at values l.var ≡ None) × (l.var < length values)

abbrev pub Comes : List (List Lit) → List (Option Bool) → Event → Type 0
Comes clauses values (events.Conflict k) = IsConflict clauses values k
Comes clauses values (events.Implied l k) = IsUnit clauses values l k
Comes clauses values (events.Free l) = IsFree values l
Comes clauses values events.Quiet = Unit {0}

-- no event comes from clauses that all are true
abbrev pub IfQuiet : List (List Lit) → List (Option Bool) → Event → Type 0
IfQuiet clauses values (events.Conflict k) = Unit {0}
IfQuiet clauses values (events.Implied l k) = Unit {0}
IfQuiet clauses values (events.Free l) = Unit {0}
IfQuiet clauses values events.Quiet = All (IsSatisfied values) clauses
