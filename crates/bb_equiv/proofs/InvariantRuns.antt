-- From states in which an invariant is 1 it is 1 at each event of a run.
use Rattle.std.proofs.Common.{ℕ, true, false, List, [], ◌∷◌, None, Some, refl, true≢false}
use Rattle.std.specs.Prelude.{All}
use Rattle.std.proofs.lemmas.List.Elements.{All-cons, All-nil}
use Rattle.bb_bits.specs.Contents.{Contents}
use Rattle.bb_design.specs.Hierarchy.{Design}
use Rattle.bb_net.specs.CutPoints.{TopOutput}
use Rattle.bb_equiv.specs.DesignEquivalence.{IsRequired}
use Rattle.bb_equiv.specs.Invariants.{HoldsIn, IsInvariant}
use Rattle.bb_equiv.specs.Laws.Invariants.{InvariantsAreNotBroken, InvariantsHoldInRuns, OneVectorIsEnough}
use Rattle.bb_equiv.proofs.OneBit.{one_bit, place}
use Rattle.bb_equiv.specs.Runs.{Event, IsEvent, NoEvent, Observation, OneMore, Runs, States}

module _ (name : List ℕ) (d : Design) (contents : Contents) (invariant : IsInvariant None d name) where
  holds_in_run : (states : States) (events : List Event) (seen : List Observation) → HoldsIn d contents states name
      → Runs d contents states events seen → All (λ (one : Observation). IsRequired (Some name) one.outputs) seen
  holds_in_run states [] [] holds NoEvent = All-nil (λ (one : Observation). IsRequired (Some name) one.outputs)
  holds_in_run states [] (step ∷ steps) holds runs = elim runs [ ]
  holds_in_run states (event ∷ events) [] holds runs = elim runs [ ]
  holds_in_run states (event ∷ events) (step ∷ steps) holds (OneMore w is rest) =
      let now = holds event w is.world is.vector in
      All-cons (λ (one : Observation). IsRequired (Some name) one.outputs) step steps now
      (holds_in_run step.after events steps (invariant contents states step.after event w is tt now) rest)

pub invariants_hold_in_runs : InvariantsHoldInRuns
invariants_hold_in_runs name spec imp contents invariant run = record {
  spec_runs = run.spec_runs;
  imp_runs = run.imp_runs;
  alike = λ states others events seen more equal holds a b.
      run.alike states others events seen more equal a b (holds_in_run name spec contents invariant states events seen holds a);
}

-- an event without edges keeps the states
pub one_vector_is_enough : OneVectorIsEnough
one_vector_is_enough care name d contents states event w invariant world has required one =
    invariant contents states states (record { inputs = event.inputs; edges = λ n. None }) w comes required one
  where
    comes : IsEvent d contents states (record { inputs = event.inputs; edges = λ n. None }) w states
    comes = record {
      world = world;
      vector = record { inputs = has.inputs; states = has.states };
      stores = λ r there stores. absurd (cc stores.3);
      keeps = λ r there none. refl;
    }

-- in the world after an event an output has one bit
pub invariants_are_not_broken : InvariantsAreNotBroken
invariants_are_not_broken care name d contents states event next allowed invariant broken =
    let (v, world, has) = broken.next_world in
    let one = invariant contents states broken.after event broken.w broken.comes broken.required broken.before next v world has in
    let zero = broken.later v world has in
    true≢false (one_bit d allowed.sound v (TopOutput name) true false (place d allowed.sound v (TopOutput name) true one) (place d allowed.sound v (TopOutput name) false zero))
