-- The status of a clause under some false literals, and its consequence.
use Rattle.std.specs.Prelude.{ℕ, ◌≡◌, ◌<◌, Bool, false, Option, Some, None, List, length, slice_get, All, Any}
use Rattle.bb_cnf.specs.declared.clauses.Lit.{Lit}
use Rattle.bb_cnf.specs.Clauses.{Literals}
use Rattle.bb_rup.specs.Propagation.{complement, IsFalseClause, IsUnitClause, HasTwo, IsOpen}
use Rattle.bb_rup.specs.Inside.Trails.{mark_place, marked}
use Rattle.bb_rup.specs.declared.examination.ClauseStatus.{ClauseStatus}
use Rattle.bb_rup.specs.declared.examination.ClauseStatus.TheVariants as statuses
use Rattle.bb_rup.specs.declared.scan.Event.{Event}
use Rattle.bb_rup.specs.declared.scan.Event.TheVariants as events

-- the literals so far are false, but for the free one
abbrev pub IsSoFar : Literals → List Lit → Option Lit → Type 0
IsSoFar falses prefix None = IsFalseClause falses prefix
IsSoFar falses prefix (Some l) = IsUnitClause falses prefix l

abbrev pub HasStatus : Literals → List Lit → ClauseStatus → Type 0
HasStatus falses clause statuses.False = IsFalseClause falses clause
HasStatus falses clause (statuses.Unit l) = IsUnitClause falses clause l
HasStatus falses clause statuses.Two = HasTwo falses clause

-- some clause is a unit clause of the literal, whose complement is not false yet and has a mark
pub record IsImplied (clauses : List (List Lit)) (marks : List Bool) (l : Lit) : Type 0 where
  pub found : Any (λ clause. IsUnitClause (marked marks) clause l) clauses
  pub new : marked marks (complement l) ≡ false
  pub in_range : mark_place (complement l) < length marks

abbrev pub Comes : List (List Lit) → List Bool → Event → Type 0
Comes clauses marks events.Conflict = Any (IsFalseClause (marked marks)) clauses
Comes clauses marks (events.Implied l) = IsImplied clauses marks l
Comes clauses marks events.Quiet = Unit {0}

-- where nothing comes of a clause, it is open, and where nothing comes of all clauses, they are
abbrev pub IfOpen : List (List Lit) → List Bool → ℕ → Event → Type 0
IfOpen clauses marks k events.Conflict = Unit {0}
IfOpen clauses marks k (events.Implied l) = Unit {0}
IfOpen clauses marks k events.Quiet = (clause : List Lit) → slice_get clauses k ≡ Some clause → IsOpen (marked marks) clause

abbrev pub IfQuiet : List (List Lit) → List Bool → Event → Type 0
IfQuiet clauses marks events.Conflict = Unit {0}
IfQuiet clauses marks (events.Implied l) = Unit {0}
IfQuiet clauses marks events.Quiet = All (IsOpen (marked marks)) clauses
