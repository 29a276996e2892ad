-- Laws of runs: equivalent designs run the same, and a counterexample is observed at an event.
use Rattle.std.specs.Prelude.{◌↔◌, ℕ, Bool, List, [], ◌∷◌, All, Contains, Option}
use Rattle.std.specs.List.{AllZip}
use Rattle.bb_bits.specs.Contents.{Contents}
use Rattle.bb_design.specs.Hierarchy.{Design}
use Rattle.bb_design.specs.Inside.Allowed.{IsAllowed}
use Rattle.bb_design.specs.Worlds.{FitDesign}
use Rattle.bb_net.specs.CutPoints.{TopOutput}
use Rattle.bb_equiv.specs.Comparable.{AreComparable}
use Rattle.bb_equiv.specs.DesignEquivalence.{ContentsMakeEquivalent, IsRequired, IsCompared}
use Rattle.bb_equiv.specs.Laws.Mistakes.{HaveCounterexample}
use Rattle.bb_equiv.specs.Runs.{Event, States, Observation, Runs, HaveSameStates, HaveRuns, RunTheSame}

-- who looks at the outputs of the top and at the registers finds the same, but for the care output: a next state that
-- no register takes is not looked at
pub record AreObservedTheSame (care : Option (List ℕ)) (spec : Design) (one other : Observation) : Type 0 where
  pub outputs : (n : List ℕ) (b : Bool) → IsCompared care (TopOutput n)
      → Contains one.outputs (TopOutput n, b) ↔ Contains other.outputs (TopOutput n, b)
  pub states : HaveSameStates spec one.after other.after

-- an event shows that the two differ: both have runs, and from some states, which both have, equivalence is required as
-- it comes, and what is observed of the two is not the same; whether these states can be reached is not said
pub record EventShows (care : Option (List ℕ)) (spec imp : Design) (contents : Contents) : Type 0 where
  pub spec_runs : HaveRuns spec contents
  pub imp_runs : HaveRuns imp contents
  pub states : States
  pub event : Event
  pub required : (seen : List Observation) → Runs spec contents states (event ∷ []) seen
      → All (λ (one : Observation). IsRequired care one.outputs) seen
  pub apart : (seen more : List Observation) → Runs spec contents states (event ∷ []) seen
      → Runs imp contents states (event ∷ []) more → AllZip (AreObservedTheSame care spec) seen more → ⊥

-- contents that make two designs agree at each vector make them behave the same in every run
abbrev pub EquivalentDesignsRunTheSame : Type 0
EquivalentDesignsRunTheSame = (care : Option (List ℕ)) (spec imp : Design) (contents : Contents) → IsAllowed spec
    → IsAllowed imp → AreComparable care spec imp → FitDesign imp contents → ContentsMakeEquivalent care spec imp contents
    → RunTheSame care spec imp contents

-- designs that can be compared have runs, whatever contents fit
abbrev pub ComparableDesignsHaveRuns : Type 0
ComparableDesignsHaveRuns = (care : Option (List ℕ)) (spec imp : Design) (contents : Contents) → IsAllowed spec
    → IsAllowed imp → AreComparable care spec imp → FitDesign imp contents
    → HaveRuns spec contents × HaveRuns imp contents

-- a counterexample is observed at an event, from states with the bits of its vector: where a next state differs, its
-- register has the edge of its clock
abbrev pub EventsShowCounterexamples : Type 0
EventsShowCounterexamples = (care : Option (List ℕ)) (spec imp : Design) (contents : Contents) → IsAllowed spec
    → IsAllowed imp → AreComparable care spec imp → FitDesign imp contents
    → HaveCounterexample care spec imp contents → EventShows care spec imp contents
