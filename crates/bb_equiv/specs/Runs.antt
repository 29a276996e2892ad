-- Runs over several clock cycles, of designs whose clocks are inputs. An event gives a bit to each bit of an input port
-- of the top, and says which of these had an edge. As it comes, the design is in a world with these bits and the
-- present states of its registers, and gives the outputs of that world. Then each register bit whose clock had its edge
-- takes its next state, all at once, and the others keep theirs (IEEE 1364-2005, 9.2.2 and 9.7, for the one clocked
-- form that is read). Nothing ties the bit of a clock to its edge: a design reads it as it is at the edge.
-- A verdict is about worlds, where registers are cut and every state counts; what it means for runs, from any equal
-- states, is a law. Time is a list of events with the edges that come with them, so several clocks and both edges need
-- no definition of their own.
--
-- For example, of `always @(posedge c) q <= d; buf(y, q);` with q = 0 and the events d = 1 with an edge of c, d = 0
-- without, and d = 0 with one again, y is 0, 1, 1, and q is 1, 1, 0 after them.
use Rattle.std.specs.Prelude.{◌≡◌, ℕ, Bool, List, [], ◌∷◌, All, Contains, Option, Some}
use Rattle.std.specs.List.{AllZip}
use Rattle.bb_bits.specs.Contents.{Contents}
use Rattle.bb_design.specs.Hierarchy.{Design}
use Rattle.bb_design.specs.NetBits.{Bit, top_inputs}
use Rattle.bb_design.specs.Refusals.{register_texts}
use Rattle.bb_design.specs.Registers.{RegisterBit, registers}
use Rattle.bb_design.specs.Texts.{bit_text}
use Rattle.bb_design.specs.Worlds.{World, Vector, IsWorld, HasVector, next_bit, outputs_in}
use Rattle.bb_net.specs.CutPoints.{TopInput, State, CutOutput}
use Rattle.bb_equiv.specs.Comparable.{IsClockedByInput}
use Rattle.bb_equiv.specs.DesignEquivalence.{HaveSameBits, IsRequired}

-- by the text of an input bit: its bit, and whether it had an edge, and then whether it fell
pub record Event : Type 0 where
  pub inputs : List ℕ → Bool
  pub edges : List ℕ → Option Bool

-- the present states of registers, by the texts of their bits
abbrev pub States : Type 0
States = List ℕ → Bool

-- the vector that a design with these states has as an event comes
abbrev pub seen_at : States → Event → Vector
seen_at states event (TopInput n) = event.inputs n
seen_at states event (State n) = states n

-- the clock of the register bit has the edge at which it stores
abbrev pub Stores : Design → Event → RegisterBit → Type 0
Stores d event r = (input : Bit) × Contains (top_inputs d) input × IsClockedByInput d r input
    × (event.edges (bit_text d input) ≡ Some r.item.falling)

-- an event comes in this world of the design, and after it its registers have these states
pub record IsEvent (d : Design) (contents : Contents) (states : States) (event : Event) (w : World)
    (after : States) : Type 0 where
  pub world : IsWorld d contents w
  pub vector : HasVector d (seen_at states event) w
  pub stores : (r : RegisterBit) → Contains (registers d) r → Stores d event r → after (bit_text d r.bit) ≡ next_bit w r
  pub keeps : (r : RegisterBit) → Contains (registers d) r → (Stores d event r → ⊥)
      → after (bit_text d r.bit) ≡ states (bit_text d r.bit)

-- what is seen of an event: the outputs and next states as it comes, and the states after it
pub record Observation : Type 0 where
  pub outputs : List (CutOutput × Bool)
  pub after : States

-- events, one after another, and what is seen of each
pub data Runs (d : Design) (contents : Contents) : States → List Event → List Observation → Type 0 where
  NoEvent : {states : States} → Runs d contents states [] []
  OneMore : {states after : States} {event : Event} {events : List Event} {seen : List Observation} → (w : World)
      → IsEvent d contents states event w after → Runs d contents after events seen
      → Runs d contents states (event ∷ events) (record { outputs = outputs_in d w; after = after } ∷ seen)

-- the registers of a design have the same states
abbrev pub HaveSameStates : Design → States → States → Type 0
HaveSameStates d states others = (n : List ℕ) → Contains (register_texts d) n → others n ≡ states n

-- the same is seen, but for the care output
pub record AreSeenTheSame (care : Option (List ℕ)) (spec : Design) (one other : Observation) : Type 0 where
  pub outputs : HaveSameBits care one.outputs other.outputs
  pub states : HaveSameStates spec one.after other.after

-- whatever events come, the design has a run
pub record HaveRuns (d : Design) (contents : Contents) : Type 0 where
  pub some : (states : States) (events : List Event) → (seen : List Observation) × Runs d contents states events seen

-- from the same states the same is seen of the two designs at each event of any list, where equivalence is required at
-- each event of the run of the specification: with a care output, for as long as this is 1
abbrev pub ShowTheSame : Option (List ℕ) → Design → Design → Contents → Type 0
ShowTheSame care spec imp contents = (states others : States) (events : List Event) (seen more : List Observation)
    → HaveSameStates spec states others → Runs spec contents states events seen → Runs imp contents others events more
    → All (λ (one : Observation). IsRequired care one.outputs) seen → AllZip (AreSeenTheSame care spec) seen more

-- and both have runs
pub record RunTheSame (care : Option (List ℕ)) (spec imp : Design) (contents : Contents) : Type 0 where
  pub spec_runs : HaveRuns spec contents
  pub imp_runs : HaveRuns imp contents
  pub alike : ShowTheSame care spec imp contents
