-- A solver between two searches.
use Rattle.std.specs.Prelude.{ℕ, ◌+◌, ◌≤◌, length, take}
use Rattle.bb_cnf.specs.Clauses.{Formula}
use Rattle.bb_cdcl.specs.declared.state.State.{State}
use Rattle.bb_cdcl.specs.Inside.States.{IsDerived, IsReady}

-- The first `known` clauses were given when the last search ended; the next may go on with the others.
pub record IsResting (known : ℕ) (formula : Formula) (s : State) : Type 0 where
  pub known_within : known ≤ length formula.clauses
  pub derived : IsDerived (take known formula.clauses) s
  pub ready : IsReady s
  pub few : length s.trail.values.items ≤ formula.vars + 1
