-- A counterexample is observed in a run of one event: this gives the inputs the bits of the vector, from states with its bits, and each
-- clock the edge at which the register stores that differs, if one does.
use Rattle.std.proofs.Common.{◌≡◌, ◌∷◌, ◌∙◌, ℕ, Bool, false, not, List, [], Contains, Option, Some, refl, sym, ap, subst, inl, inr}
use Rattle.std.specs.Prelude.{All}
use Rattle.std.specs.List.{AllZip}
use Rattle.bb_bits.specs.Contents.{Contents}
use Rattle.bb_lemmas.proofs.Apart.{one_by}
use Rattle.bb_lemmas.proofs.Members.{all_from, contains-map, contains_cases, none_in_nil}
use Rattle.bb_design.specs.Hierarchy.{Design}
use Rattle.bb_design.specs.Inside.Allowed.{IsAllowed}
use Rattle.bb_design.specs.Refusals.{RegisterTexts}
use Rattle.bb_design.specs.Registers.{RegisterBit, registers}
use Rattle.bb_design.specs.Texts.{bit_text}
use Rattle.bb_design.specs.Worlds.{World, Vector, HasVector, FitDesign, next_bit, outputs_in}
use Rattle.bb_net.specs.CutPoints.{CutOutput, NextState, State, TopInput, TopOutput}
use Rattle.bb_equiv.specs.Comparable.{AreComparable}
use Rattle.bb_equiv.specs.DesignEquivalence.{IsRequired, IsCompared}
use Rattle.bb_equiv.specs.Laws.Runs.{AreObservedTheSame, EventsShowCounterexamples}
use Rattle.bb_equiv.specs.Mistakes.{DifferAt, DifferWith}
use Rattle.bb_equiv.specs.Runs.{Event, IsEvent, NoEvent, OneMore, Runs, Observation, States, Stores, seen_at}
use Rattle.bb_equiv.proofs.OneBit.{apart, called, one_bit, one_next, place, turned, valued}
use Rattle.bb_equiv.proofs.Runs.{comparable_designs_have_runs, stores_too}

module _ (care : Option (List ℕ)) (spec imp : Design) (contents : Contents) (spec_allowed : IsAllowed spec) (allowed : IsAllowed imp)
    (can : AreComparable care spec imp) (fit : FitDesign imp contents) (x : Vector) (o : CutOutput) (with : DifferWith care spec imp contents x (Some o)) where
  -- the edge at which the register stores whose next state is this output
  abbrev Edge : Type 0
  Edge = (fall : Bool) × ((r : RegisterBit) → Contains (registers spec) r → NextState (bit_text spec r.bit) ≡ o → r.item.falling ≡ fall)

  edge : Edge
  edge =
      let (w, is_w, has_w) = with.worlds.0 in
      let (v, is_v, has_v) = with.worlds.1 in
      let differ = with.differ w v is_w has_w is_v has_v in
      elim (place spec spec_allowed.sound w o differ.bit differ.spec_has) [
        | inl top ↦ (false, λ r in_r e. absurd (apart _ _ (called top.2 ∙ sym e)))
        | inr register ↦ (
          register.0.item.falling,
          λ r in_r e. ap (λ (s : RegisterBit). s.item.falling)
              (one_by (λ (s : RegisterBit). bit_text spec s.bit) (registers spec) (spec_allowed.sound RegisterTexts) r register.0 in_r register.1 (one_next _ _ (e ∙ sym (called register.2)))),
        )
      ]

  abbrev states : States
  states n = x (State n)

  abbrev event : Event
  event = record { inputs = λ n. x (TopInput n); edges = λ n. Some edge.0 }

  has : (d : Design) (w : World) → HasVector d (seen_at states event) w → HasVector d x w
  has d w h = record { inputs = h.inputs; states = h.states }

  -- where an output of the top differs, what is observed is not the same
  top_apart : (w v : World) (differ : DifferAt care spec imp w v o) (n : List ℕ) → TopOutput n ≡ o
      → ((b : Bool) → IsCompared care (TopOutput n) → Contains (outputs_in spec w) (TopOutput n, b) → Contains (outputs_in imp v) (TopOutput n, b)) → ⊥
  top_apart w v differ n is same =
      let counts = subst (IsCompared care) (sym is) differ.is_compared in
      let here = subst (λ p. Contains (outputs_in spec w) (p, differ.bit)) (sym is) differ.spec_has in
      let also = subst (λ p. Contains (outputs_in imp v) (p, differ.bit)) is (same differ.bit counts here) in
      turned differ.bit (one_bit imp allowed.sound v o differ.bit (not differ.bit) (place imp allowed.sound v o differ.bit also) (place imp allowed.sound v o (not differ.bit) differ.imp_has))

  -- where a next state does, its register takes it in both
  next_apart : (w v : World) (after more : States) → IsEvent spec contents states event w after → IsEvent imp contents states event v more → (differ : DifferAt care spec imp w v o)
      → (r q : RegisterBit) → Contains (registers spec) r → Contains (registers imp) q → NextState (bit_text spec r.bit) ≡ o → NextState (bit_text imp q.bit) ≡ o
      → next_bit w r ≡ differ.bit → next_bit v q ≡ not differ.bit → more (bit_text spec r.bit) ≡ after (bit_text spec r.bit) → ⊥
  next_apart w v after more a b differ r q in_r in_q is_r is_q bit_r bit_q same =
      let named = one_next (bit_text imp q.bit) (bit_text spec r.bit) (is_q ∙ sym is_r) in
      let (falls, clocks) = can.clocks r q in_r in_q named in
      let (c, d, in_c, in_d, texts, goes_c, goes_d) = clocks in
      let stores : Stores spec event r = (c, in_c, goes_c, ap Some (sym (edge.1 r in_r is_r))) in
      let too = stores_too care spec imp contents can fit r q in_r in_q named event stores in
      turned differ.bit (sym bit_r ∙ sym (a.stores r in_r stores) ∙ sym same ∙ ap more (sym named) ∙ b.stores q in_q too ∙ bit_q)

  observed : (w v : World) (a b : Observation) → a.outputs ≡ outputs_in spec w → b.outputs ≡ outputs_in imp v → IsEvent spec contents states event w a.after
      → IsEvent imp contents states event v b.after → AreObservedTheSame care spec a b → ⊥
  observed w v a b are also is be alike =
      let differ = with.differ w v is.world (has spec w is.vector) be.world (has imp v be.vector) in
      elim (place spec spec_allowed.sound w o differ.bit differ.spec_has) [
        | inl top ↦
            let n = bit_text spec top.0 in
            top_apart w v differ n (called top.2) (λ c counts h.
            subst (λ (l : List (CutOutput × Bool)). Contains l (TopOutput n, c)) also ((alike.outputs n c counts).0 (subst (λ (l : List (CutOutput × Bool)). Contains l (TopOutput n, c)) (sym are) h)))
        | inr register ↦ elim (place imp allowed.sound v o (not differ.bit) differ.imp_has) [
          | inl top ↦ apart _ _ (called top.2 ∙ sym (called register.2))
          | inr other ↦ next_apart w v a.after b.after is be differ register.0 other.0 register.1 other.1 (called register.2) (called other.2) (valued register.2) (valued other.2)
              (alike.states (bit_text spec register.0.bit) (contains-map (λ (s : RegisterBit). bit_text spec s.bit) (registers spec) register.0 register.1))
        ]
      ]

  alone : (P : Observation → Type 0) (a : Observation) → P a → All P (a ∷ [])
  alone P a is = all_from P (a ∷ []) (λ y in_y. elim (contains_cases a [] y in_y) [
    | inl same ↦ subst P same is
    | inr none ↦ absurd (none_in_nil y none)
  ])

  requested : (seen : List Observation) → Runs spec contents states (event ∷ []) seen → All (λ (one : Observation). IsRequired care one.outputs) seen
  requested [] runs = elim runs [ ]
  requested (a ∷ (c ∷ cs)) (OneMore w is rest) = elim rest [ ]
  requested (a ∷ []) (OneMore w is NoEvent) = alone (λ (one : Observation). IsRequired care one.outputs) a (with.required w is.world (has spec w is.vector))

  apart_after : (seen more : List Observation) → Runs spec contents states (event ∷ []) seen → Runs imp contents states (event ∷ []) more → AllZip (AreObservedTheSame care spec) seen more → ⊥
  apart_after [] more runs others = elim runs [ ]
  apart_after (a ∷ ws) [] runs others = elim others [ ]
  apart_after (a ∷ (c ∷ cs)) (b ∷ bs) (OneMore w is rest) others = elim rest [ ]
  apart_after (a ∷ []) (b ∷ (c ∷ cs)) runs (OneMore v be rest) = elim rest [ ]
  apart_after (a ∷ []) (b ∷ []) (OneMore w is NoEvent) (OneMore v be NoEvent) = λ alike. observed w v a b refl refl is be alike.0

pub events_show_counterexamples : EventsShowCounterexamples
events_show_counterexamples care spec imp contents spec_allowed allowed can fit (x, o, with) =
    let runs = comparable_designs_have_runs care spec imp contents spec_allowed allowed can fit in
    record {
      spec_runs = runs.0;
      imp_runs = runs.1;
      states = states care spec imp contents spec_allowed allowed can fit x o with;
      event = event care spec imp contents spec_allowed allowed can fit x o with;
      required = requested care spec imp contents spec_allowed allowed can fit x o with;
      apart = apart_after care spec imp contents spec_allowed allowed can fit x o with;
    }
