-- Designs that agree run alike: as an event comes both have the same vector, and a register stores in both or in none, since its clocks
-- are inputs of one text. And there are runs.
use Rattle.std.proofs.Common.{◌≡◌, ◌⊎◌, ◌∷◌, ◌∙◌, ℕ, Bool, true, false, List, [], map, length, Contains, Option, Some, None, refl, sym, ap, subst, inl, inr, arith, true≢false}
use Rattle.std.specs.List.{find}
use Rattle.std.proofs.lemmas.List.Elements.{All-contains, All-head, All-tail, Contains-append_right}
use Rattle.bb_bits.specs.Contents.{Contents}
use Rattle.bb_bits.specs.Names.{same_name}
use Rattle.bb_lemmas.proofs.Apart.{one_by}
use Rattle.bb_lemmas.proofs.Members.{all_from, contains-map, find_there, from_find, from_map}
use Rattle.bb_lemmas.proofs.Names.{same_equal, same_self}
use Rattle.bb_design.specs.Hierarchy.{Design}
use Rattle.bb_design.specs.Inside.Allowed.{IsAllowed}
use Rattle.bb_design.specs.NetBits.{Bit, top_inputs, top_outputs}
use Rattle.bb_design.specs.Refusals.{RegisterTexts, register_texts}
use Rattle.bb_design.specs.Registers.{RegisterBit, registers}
use Rattle.bb_design.specs.Texts.{bit_text}
use Rattle.bb_design.specs.Worlds.{World, Vector, HasVector, IsWorld, FitDesign, bit_in, next_bit, outputs_in}
use Rattle.bb_net.specs.CutPoints.{CutOutput, NextState, State, TopInput, TopOutput}
use Rattle.bb_equiv.specs.Comparable.{AreComparable, AreSettled, IsClockedByInput}
use Rattle.bb_equiv.specs.DesignEquivalence.{ContentsMakeEquivalent, HaveSameBits, IsRequired, IsCompared}
use Rattle.bb_equiv.specs.Laws.Runs.{EquivalentDesignsRunTheSame, ComparableDesignsHaveRuns}
use Rattle.bb_equiv.specs.Runs.{Event, HaveSameStates, IsEvent, NoEvent, OneMore, Runs, Observation, ShowTheSame, States, Stores, seen_at}
use Rattle.bb_equiv.proofs.OneBit.{one_bit, place}

pub some_one : (a b : Bool) → Some a ≡ Some b → a ≡ b
some_one a b e = cc e

-- an input has the edge, or it has not
same_edge : (edge : Option Bool) (falling : Bool) → (edge ≡ Some falling) ⊎ (edge ≡ Some falling → ⊥)
same_edge None falling = inr (λ e. cc e)
same_edge (Some true) true = inl refl
same_edge (Some true) false = inr (λ e. true≢false (some_one true false e))
same_edge (Some false) true = inr (λ e. true≢false (sym (some_one false true e)))
same_edge (Some false) false = inl refl

-- one bit is in one list of one bit
one_of_one : (a b : Bool) → a ∷ [] ≡ b ∷ [] → a ≡ b
one_of_one a b e = cc e

-- the vector in which the input of this text alone is 1
abbrev alone_at : List ℕ → Vector
alone_at n (TopInput m) = same_name m n
alone_at n (State m) = false

-- a register has one clock
module _ (d : Design) (contents : Contents) (fit : FitDesign d contents) (settled : AreSettled d contents) (r : RegisterBit) where
  pub one_clock : (b c : Bit) → Contains (top_inputs d) b → Contains (top_inputs d) c → IsClockedByInput d r b → IsClockedByInput d r c → bit_text d c ≡ bit_text d b
  one_clock b c in_b in_c goes also =
      let (w, is, has) = settled.some (alone_at (bit_text d b)) in
      let first : bit_in w b ≡ same_name (bit_text d b) (bit_text d b) = All-contains (λ (t : Bit). bit_in w t ≡ alone_at (bit_text d b) (TopInput (bit_text d t))) (top_inputs d) b has.inputs in_b in
      let second : bit_in w c ≡ same_name (bit_text d c) (bit_text d b) = All-contains (λ (t : Bit). bit_in w t ≡ alone_at (bit_text d b) (TopInput (bit_text d t))) (top_inputs d) c has.inputs in_c in
      let same = one_of_one (bit_in w b) (bit_in w c) (sym (goes contents w fit is) ∙ also contents w fit is) in
      same_equal (bit_text d c) (bit_text d b) (sym second ∙ sym same ∙ first ∙ same_self (bit_text d b))

-- a register that stores takes the bit that is reported as its next state; each next state is compared
compared_next : (care : Option (List ℕ)) (n : List ℕ) → IsCompared care (NextState n)
compared_next None n = tt
compared_next (Some c) n = λ same. cc same

module _ (care : Option (List ℕ)) (spec imp : Design) (contents : Contents) (can : AreComparable care spec imp) (fit : FitDesign imp contents) where
  pub spec_fits : FitDesign spec contents
  spec_fits k scope lt = absurd (omega (arith, lt, ap length can.complete))

  -- two register bits of one text, and the inputs that are their clocks
  module _ (r q : RegisterBit) (in_spec : Contains (registers spec) r) (in_imp : Contains (registers imp) q) (named : bit_text imp q.bit ≡ bit_text spec r.bit) (event : Event) where
    pub stores_too : Stores spec event r → Stores imp event q
    stores_too (b0, in_b0, goes0, edge) =
        let (falls, clocks) = can.clocks r q in_spec in_imp named in
        let (b, c, in_b, in_c, texts, goes_b, goes_c) = clocks in
        let clock = one_clock spec contents spec_fits (can.settled contents fit).0 r b b0 in_b in_b0 goes_b goes0 in
        (c, in_c, goes_c, ap event.edges (texts ∙ sym clock) ∙ edge ∙ ap Some (sym falls))

    pub stores_back : Stores imp event q → Stores spec event r
    stores_back (c0, in_c0, goes0, edge) =
        let (falls, clocks) = can.clocks r q in_spec in_imp named in
        let (b, c, in_b, in_c, texts, goes_b, goes_c) = clocks in
        let clock = one_clock imp contents fit (can.settled contents fit).1 q c c0 in_c in_c0 goes_c goes0 in
        (b, in_b, goes_b, ap event.edges (sym texts ∙ sym clock) ∙ edge ∙ ap Some falls)

    pub stores_or_not : Stores spec event r ⊎ (Stores spec event r → ⊥)
    stores_or_not =
        let (falls, clocks) = can.clocks r q in_spec in_imp named in
        let (b, c, in_b, in_c, texts, goes_b, goes_c) = clocks in
        elim (same_edge (event.edges (bit_text spec b)) r.item.falling) [
          | inl edge ↦ inl (b, in_b, goes_b, edge)
          | inr other ↦ inr (λ stores. other (ap event.edges (sym (one_clock spec contents spec_fits (can.settled contents fit).0 r b stores.0 in_b stores.1 goes_b stores.2)) ∙ stores.3))
        ]

  -- one event
  module _ (imp_allowed : IsAllowed imp) (agree : ContentsMakeEquivalent care spec imp contents) (states others : States) (same : HaveSameStates spec states others)
      (event : Event) (w v : World) (after more : States) (a : IsEvent spec contents states event w after) (b : IsEvent imp contents others event v more)
      (requested : IsRequired care (outputs_in spec w)) where
    -- both have the vector
    moved : HasVector imp (seen_at states event) v
    moved = record {
      inputs = b.vector.inputs;
      states = all_from (λ (r : RegisterBit). bit_in v r.bit ≡ states (bit_text imp r.bit)) (registers imp) (λ r in_r.
          All-contains (λ (r : RegisterBit). bit_in v r.bit ≡ others (bit_text imp r.bit)) (registers imp) r b.vector.states in_r
          ∙ same (bit_text imp r.bit) (All-contains (Contains (register_texts spec)) (register_texts imp) (bit_text imp r.bit) can.same_registers.1
          (contains-map (λ (r : RegisterBit). bit_text imp r.bit) (registers imp) r in_r)));
    }

    pub same_outputs : HaveSameBits care (outputs_in spec w) (outputs_in imp v)
    same_outputs = agree (seen_at states event) w v a.world a.vector b.world moved requested

    abbrev of_top : (d : Design) → World → Bit → CutOutput × Bool
    of_top d u t = (TopOutput (bit_text d t), bit_in u t)

    abbrev of_register : (d : Design) → World → RegisterBit → CutOutput × Bool
    of_register d u r = (NextState (bit_text d r.bit), next_bit u r)

    next_there : (d : Design) (u : World) (r : RegisterBit) → Contains (registers d) r → Contains (outputs_in d u) (NextState (bit_text d r.bit), next_bit u r)
    next_there d u r in_r = Contains-append_right (map (of_top d u) (top_outputs d)) (map (of_register d u) (registers d)) (of_register d u r) (contains-map (of_register d u) (registers d) r in_r)

    -- registers of one text have one next state
    same_next : (r q : RegisterBit) → Contains (registers spec) r → Contains (registers imp) q → bit_text imp q.bit ≡ bit_text spec r.bit → next_bit v q ≡ next_bit w r
    same_next r q in_r in_q named =
        let o = NextState (bit_text spec r.bit) in
        let also : Contains (outputs_in imp v) (o, next_bit w r) = (same_outputs o (next_bit w r) (compared_next care (bit_text spec r.bit))).0 (next_there spec w r in_r) in
        let own : Contains (outputs_in imp v) (o, next_bit v q) = subst (λ n. Contains (outputs_in imp v) (NextState n, next_bit v q)) named (next_there imp v q in_q) in
        one_bit imp imp_allowed.sound v o (next_bit v q) (next_bit w r) (place imp imp_allowed.sound v o (next_bit v q) own) (place imp imp_allowed.sound v o (next_bit w r) also)

    same_after : (r q : RegisterBit) → Contains (registers spec) r → Contains (registers imp) q → bit_text imp q.bit ≡ bit_text spec r.bit → more (bit_text imp q.bit) ≡ after (bit_text spec r.bit)
    same_after r q in_r in_q named = elim (stores_or_not r q in_r in_q named event) [
      | inl stores ↦ b.stores q in_q (stores_too r q in_r in_q named event stores) ∙ same_next r q in_r in_q named ∙ sym (a.stores r in_r stores)
      | inr kept ↦ b.keeps q in_q (λ stores. kept (stores_back r q in_r in_q named event stores)) ∙ ap others named
          ∙ same (bit_text spec r.bit) (contains-map (λ (r : RegisterBit). bit_text spec r.bit) (registers spec) r in_r) ∙ sym (a.keeps r in_r kept)
    ]

    pub same_states : HaveSameStates spec after more
    same_states n in_n =
        let (r, in_r, is_r) = from_map (λ (r : RegisterBit). bit_text spec r.bit) (registers spec) n in_n in
        let (q, in_q, is_q) = from_map (λ (r : RegisterBit). bit_text imp r.bit) (registers imp) n (All-contains (Contains (register_texts imp)) (register_texts spec) n can.same_registers.0 in_n) in
        ap more (sym is_q) ∙ same_after r q in_r in_q (is_q ∙ sym is_r) ∙ ap after is_r

  pub run_isomorphic : IsAllowed imp → ContentsMakeEquivalent care spec imp contents → ShowTheSame care spec imp contents
  run_isomorphic allowed agree states others [] [] [] same NoEvent NoEvent requested = record {}
  run_isomorphic allowed agree states others [] [] (also ∷ rest) same runs more requested = elim more [ ]
  run_isomorphic allowed agree states others [] (step ∷ steps) more same runs also requested = elim runs [ ]
  run_isomorphic allowed agree states others (event ∷ events) [] more same runs also requested = elim runs [ ]
  run_isomorphic allowed agree states others (event ∷ events) (step ∷ steps) [] same runs more requested = elim more [ ]
  run_isomorphic allowed agree states others (event ∷ events) (step ∷ steps) (also ∷ rest) same (OneMore w a runs) (OneMore v b more) requested =
      let now = All-head (λ (one : Observation). IsRequired care one.outputs) step steps requested in
      let after = same_states allowed agree states others same event w v step.after also.after a b now in (
        record { outputs = same_outputs allowed agree states others same event w v step.after also.after a b now; states = after },
        run_isomorphic allowed agree step.after also.after events steps rest after runs more (All-tail (λ (one : Observation). IsRequired care one.outputs) step steps requested),
      )

-- where each register has a clock and there are worlds, there are runs
module _ (d : Design) (contents : Contents) (allowed : IsAllowed d) (fit : FitDesign d contents) (settled : AreSettled d contents)
    (clocked : (r : RegisterBit) → Contains (registers d) r → (b : Bit) × Contains (top_inputs d) b × IsClockedByInput d r b) where
  pub stores_here : (event : Event) (r : RegisterBit) → Contains (registers d) r → Stores d event r ⊎ (Stores d event r → ⊥)
  stores_here event r in_r =
      let (b, in_b, goes) = clocked r in_r in
      elim (same_edge (event.edges (bit_text d b)) r.item.falling) [
        | inl edge ↦ inl (b, in_b, goes, edge)
        | inr other ↦ inr (λ stores. other (ap event.edges (sym (one_clock d contents fit settled r b stores.0 in_b stores.1 goes stores.2)) ∙ stores.3))
      ]

  -- the register of a text, if there is one
  abbrev pub register_of : List ℕ → Option RegisterBit
  register_of n = find (λ r. same_name (bit_text d r.bit) n) (registers d)

  module _ (states : States) (event : Event) (w : World) where
    abbrev pub next_of : (r : RegisterBit) → Stores d event r ⊎ (Stores d event r → ⊥) → Bool
    next_of r (inl stores) = next_bit w r
    next_of r (inr kept) = states (bit_text d r.bit)

    abbrev pub after_of : (n : List ℕ) (o : Option RegisterBit) → register_of n ≡ o → Bool
    after_of n None e = false
    after_of n (Some r) e = next_of r (stores_here event r (from_find (λ r. same_name (bit_text d r.bit) n) (registers d) r e).0)

    abbrev pub after_event : States
    after_event n = after_of n (register_of n) refl

    -- the register of a register's text is this one
    found : (r : RegisterBit) → Contains (registers d) r → (o : Option RegisterBit) (e : register_of (bit_text d r.bit) ≡ o)
        → (s : Stores d event r ⊎ (Stores d event r → ⊥)) × (after_of (bit_text d r.bit) o e ≡ next_of r s)
    found r in_r None e =
        let (y, is, same, in_y) = find_there (λ x. same_name (bit_text d x.bit) (bit_text d r.bit)) (registers d) r in_r (same_self (bit_text d r.bit)) in
        absurd (no y (sym e ∙ is))
      where
        no : (y : RegisterBit) → None ≡ Some y → ⊥
        no y h = cc h
    found r in_r (Some q) e =
        let (in_q, same) = from_find (λ x. same_name (bit_text d x.bit) (bit_text d r.bit)) (registers d) q e in
        let one : q ≡ r = one_by (λ (x : RegisterBit). bit_text d x.bit) (registers d) (allowed.sound RegisterTexts) q r in_q in_r (same_equal (bit_text d q.bit) (bit_text d r.bit) same) in
        subst (λ x. (s : Stores d event x ⊎ (Stores d event x → ⊥)) × (next_of q (stores_here event q in_q) ≡ next_of x s)) one (stores_here event q in_q, refl)

    on : (r : RegisterBit) (s : Stores d event r ⊎ (Stores d event r → ⊥)) → Stores d event r → next_of r s ≡ next_bit w r
    on r (inl s) stores = refl
    on r (inr never) stores = absurd (never stores)

    off : (r : RegisterBit) (s : Stores d event r ⊎ (Stores d event r → ⊥)) → (Stores d event r → ⊥) → next_of r s ≡ states (bit_text d r.bit)
    off r (inl s) kept = absurd (kept s)
    off r (inr never) kept = refl

    pub event_comes : IsWorld d contents w → HasVector d (seen_at states event) w → IsEvent d contents states event w after_event
    event_comes is has = record {
      world = is;
      vector = has;
      stores = λ r in_r stores. let (s, same) = found r in_r (register_of (bit_text d r.bit)) refl in same ∙ on r s stores;
      keeps = λ r in_r kept. let (s, same) = found r in_r (register_of (bit_text d r.bit)) refl in same ∙ off r s kept;
    }

  pub some_run : (states : States) (events : List Event) → (seen : List Observation) × Runs d contents states events seen
  some_run states [] = ([], NoEvent)
  some_run states (event ∷ events) =
      let (w, is, has) = settled.some (seen_at states event) in
      let (seen, runs) = some_run (after_event states event w) events in
      (record { outputs = outputs_in d w; after = after_event states event w } ∷ seen, OneMore w (event_comes states event w is has) runs)

pub comparable_designs_have_runs : ComparableDesignsHaveRuns
comparable_designs_have_runs care spec imp contents spec_allowed imp_allowed can fit = (
  record { some = some_run spec contents spec_allowed (spec_fits care spec imp contents can fit) settled.0 of_spec },
  record { some = some_run imp contents imp_allowed fit settled.1 of_imp },
)
  where
    settled : AreSettled spec contents × AreSettled imp contents
    settled = can.settled contents fit

    of_spec : (r : RegisterBit) → Contains (registers spec) r → (b : Bit) × Contains (top_inputs spec) b × IsClockedByInput spec r b
    of_spec r in_r =
        let (q, in_q, named) = from_map (λ (q : RegisterBit). bit_text imp q.bit) (registers imp) (bit_text spec r.bit) (All-contains (Contains (register_texts imp)) (register_texts spec) (bit_text spec r.bit) can.same_registers.0
        (contains-map (λ (r : RegisterBit). bit_text spec r.bit) (registers spec) r in_r)) in
        let (falls, clocks) = can.clocks r q in_r in_q named in
        (clocks.0, clocks.2, clocks.5)

    of_imp : (q : RegisterBit) → Contains (registers imp) q → (b : Bit) × Contains (top_inputs imp) b × IsClockedByInput imp q b
    of_imp q in_q =
        let (r, in_r, named) = from_map (λ (r : RegisterBit). bit_text spec r.bit) (registers spec) (bit_text imp q.bit) (All-contains (Contains (register_texts spec)) (register_texts imp) (bit_text imp q.bit) can.same_registers.1
        (contains-map (λ (q : RegisterBit). bit_text imp q.bit) (registers imp) q in_q)) in
        let (falls, clocks) = can.clocks r q in_r in_q (sym named) in
        (clocks.1, clocks.3, clocks.6)

pub equivalent_designs_run_the_same : EquivalentDesignsRunTheSame
equivalent_designs_run_the_same care spec imp contents spec_allowed allowed can fit agree =
    let (spec_runs, imp_runs) = comparable_designs_have_runs care spec imp contents spec_allowed allowed can fit in
    record { spec_runs = spec_runs; imp_runs = imp_runs; alike = run_isomorphic care spec imp contents can fit allowed agree }
