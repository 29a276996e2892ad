-- Invariants of a specification without boxes: an output bit of the top, by its text, meant of the states, that each
-- event keeps. As an event comes at which it is 1, whatever the inputs and edges are, the states after the event are
-- such that it is 1 whatever the inputs are then: an inductive invariant (Manna and Pnueli, Temporal Verification of
-- Reactive Systems: Safety, 1995). States in which it is 0 are left out; that a design begins in one in which it is 1
-- is nowhere said. Where a care output is requested besides, only events count at which this is 1 as they come.
use Rattle.std.specs.Prelude.{ℕ, Bool, true, false, List, Contains, Option, Some}
use Rattle.std.specs.List.{AllZip}
use Rattle.bb_bits.specs.Contents.{Contents}
use Rattle.bb_design.specs.Hierarchy.{Design}
use Rattle.bb_design.specs.Worlds.{World, IsWorld, HasVector, outputs_in}
use Rattle.bb_net.specs.CutPoints.{TopOutput}
use Rattle.bb_equiv.specs.DesignEquivalence.{IsRequired}
use Rattle.bb_equiv.specs.Runs.{AreSeenTheSame, Event, HaveRuns, HaveSameStates, IsEvent, Observation, Runs, States, seen_at}

-- in a world the output has this bit
abbrev pub IsBitIn : Design → World → List ℕ → Bool → Type 0
IsBitIn d w name bit = Contains (outputs_in d w) (TopOutput name, bit)

-- with these states, as an event with these inputs comes, it is this bit in every world
abbrev pub IsBitAt : Design → Contents → States → Event → List ℕ → Bool → Type 0
IsBitAt d contents states event name bit = (w : World) → IsWorld d contents w → HasVector d (seen_at states event) w
    → IsBitIn d w name bit

-- in these states it is 1, whatever the inputs are
abbrev pub HoldsIn : Design → Contents → States → List ℕ → Type 0
HoldsIn d contents states name = (event : Event) → IsBitAt d contents states event name true

-- each event keeps it
abbrev pub IsInvariant : Option (List ℕ) → Design → List ℕ → Type 0
IsInvariant care d name = (contents : Contents) (states after : States) (event : Event) (w : World)
    → IsEvent d contents states event w after → IsRequired care (outputs_in d w) → IsBitIn d w name true
    → HoldsIn d contents after name

-- an event does not keep it: in some world with these states it is 1 as the event comes, and with the states after the
-- event and the inputs of the next one it is 0
pub record IsBrokenBy (care : Option (List ℕ)) (d : Design) (name : List ℕ) (contents : Contents) (states : States)
    (event next : Event) : Type 0 where
  pub w : World
  pub after : States
  pub comes : IsEvent d contents states event w after
  pub required : IsRequired care (outputs_in d w)
  pub before : IsBitIn d w name true
  pub next_world : (v : World) × IsWorld d contents v × HasVector d (seen_at after next) v
  pub later : IsBitAt d contents after next name false

-- from equal states in which the invariant is 1 whatever the inputs are, each run of the two designs is the same: at
-- each event they give the same outputs, but for the invariant, and after it they have the same states
pub record RunTheSameFrom (name : List ℕ) (spec imp : Design) (contents : Contents) : Type 0 where
  pub spec_runs : HaveRuns spec contents
  pub imp_runs : HaveRuns imp contents
  pub alike : (states others : States) (events : List Event) (seen more : List Observation)
      → HaveSameStates spec states others → HoldsIn spec contents states name → Runs spec contents states events seen
      → Runs imp contents others events more → AllZip (AreSeenTheSame (Some name) spec) seen more
