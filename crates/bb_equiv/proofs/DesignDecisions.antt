-- Of each cause for which two designs are refused it can be reported whether it holds; so they fit or have a first refusal.
use Rattle.std.proofs.Common.{◌≡◌, ◌≢◌, ◌⊎◌, ℕ, zero, suc, ◌<◌, ◌≤◌, List, [], ◌∷◌, Contains, Option, None, Some, refl, sym, ◌∙◌, subst, inl, inr, arith}
use Rattle.std.specs.Prelude.{All, IfSome}
use Rattle.std.proofs.lemmas.Bool.{cases_lt}
use Rattle.bb_bits.specs.Closures.{Leads, IsFirst}
use Rattle.bb_design.specs.Inside.Allowed.{IsAllowed}
use Rattle.bb_design.specs.Dependence.{dependences}
use Rattle.bb_design.specs.Hierarchy.{Design, Scope, boxes}
use Rattle.bb_design.specs.NetBits.{Bit, input_bits, output_bits, top_inputs, written_bits}
use Rattle.bb_design.specs.Reading.{copied_bits}
use Rattle.bb_design.specs.Refusals.{input_texts, output_texts, register_texts}
use Rattle.bb_design.specs.Registers.{RegisterBit, registers}
use Rattle.bb_design.specs.Texts.{bit_text, path_text}
use Rattle.bb_implements.specs.BoxOrders.{DependsOnBox}
use Rattle.bb_implements.specs.Implements.{IsCopyOf}
use Rattle.bb_implements.specs.Laws.BoxOrders.{BoxesHaveHeights}
use Rattle.bb_match.specs.declared.fault.MatchFault.{MatchFault}
use Rattle.bb_match.specs.Laws.{CausesAreRanked}
use Rattle.bb_match.specs.Refusals.{PairCause, Box, Care, SpecInput, SpecOutput, ImpInput, ImpOutput, SpecRegister, ImpRegister, SpecClock, ImpClock, Clocks, Pins, AreAmong, IsFirstMissing, IsMissing, compared, match_fault_of, most_pins, pair_cause_rank}
use Rattle.bb_equiv.specs.DesignFit.{DependsOnNone, HasClock, HasNoInputClock, HasOtherClock, IsClockedBy, IsClockedDifferently, IsFirstRegister, IsReportedOfDesigns, IsAbsentInDesigns, DesignsFit, IsRefusalFor, design_input_and_pin_count}
use Rattle.bb_equiv.specs.Laws.DesignRefusals.{FitOrRefused}
use Rattle.bb_lemmas.proofs.Deciding.{Decision, decide_both, decide_either, decide_same, decide_contains, decide_leads, first_or_none}
use Rattle.bb_lemmas.proofs.Members.{contains_here}
use Rattle.bb_lemmas.proofs.Orders.{less_or_same}
use Rattle.bb_lemmas.proofs.Places.{head_same}
use Rattle.bb_equiv.proofs.BitDecisions.{all_not, decide_bit, decide_bool, decide_name, decide_not, decide_some}

-- texts that the other lacks

missing : (texts others : List (List ℕ)) → ((n : List ℕ) × IsFirstMissing texts others n) ⊎ AreAmong texts others
missing texts others = from (first_or_none (IsMissing others) (λ n. decide_not (decide_contains decide_name others n)) texts)
  where
    from : ((n : List ℕ) → Contains texts n → IsMissing others n → ⊥) ⊎ ((n : List ℕ) × IsFirst (IsMissing others) texts n) → ((n : List ℕ) × IsFirstMissing texts others n) ⊎ AreAmong texts others
    from (inl none) = inr (all_not (Contains others) (decide_contains decide_name others) texts none)
    from (inr r) = inl r

-- the care output

care_there : (care : Option (List ℕ)) (outs : List (List ℕ)) → ((n : List ℕ) × ((care ≡ Some n) × IsMissing outs n)) ⊎ IfSome care (Contains outs)
care_there None outs = inr tt
care_there (Some care) outs = from (decide_contains decide_name outs care)
  where
    from : Decision (Contains outs care) → ((n : List ℕ) × ((Some care ≡ Some n) × IsMissing outs n)) ⊎ Contains outs care
    from (inl has) = inr has
    from (inr none) = inl (care, (refl, none))

-- clocks

module _ (d : Design) (r : RegisterBit) where
  -- the clock, where it is one bit
  abbrev Clock : Type 0
  Clock = (b : Bit) × (written_bits r.scope r.item.clock ≡ b ∷ [])

  clock_bit : Decision Clock
  clock_bit = by (written_bits r.scope r.item.clock) refl
    where
      by : (l : List Bit) → written_bits r.scope r.item.clock ≡ l → Decision Clock
      by [] same = inr (λ c. cc (sym same ∙ c.1))
      by (b ∷ []) same = inl (b, same)
      by (b ∷ c ∷ l) same = inr (λ e. cc (sym same ∙ e.1))

  decide_clocked : (input : Bit) → Decision (IsClockedBy d r input)
  decide_clocked input = by clock_bit
    where
      Comes : Bit → Type 0
      Comes b = Contains (top_inputs d) input × IsCopyOf d b input

      by : Decision Clock → Decision (IsClockedBy d r input)
      by (inr none) = inr (λ c. none (c.clock, c.is))
      by (inl (b, is)) = decide_same (into, back) (decide_both (decide_contains decide_bit (top_inputs d) input) (decide_either (decide_bit b input) (decide_leads decide_bit (copied_bits d) b input)))
        where
          into : Comes b → IsClockedBy d r input
          into h = record { clock = b; is = is; top = h.0; comes = h.1 }

          back : IsClockedBy d r input → Comes b
          back c = let same : c.clock ≡ b = head_same c.clock b [] [] (sym c.is ∙ is) in (c.top, subst (λ x. IsCopyOf d x input) same c.comes)

  decide_clock : Decision (HasClock d r)
  decide_clock = by (decide_some (IsClockedBy d r) decide_clocked (top_inputs d))
    where
      by : Decision ((x : Bit) × Contains (top_inputs d) x × IsClockedBy d r x) → Decision (HasClock d r)
      by (inl h) = inl (h.0, h.2)
      by (inr none) = inr (λ c. none (c.0, c.1.top, c.1))

clockless : (d : Design) → ((n : List ℕ) × IsFirstRegister d (HasNoInputClock d) n) ⊎ All (HasClock d) (registers d)
clockless d = from (first_or_none (HasNoInputClock d) (λ r. decide_not (decide_clock d r)) (registers d))
  where
    from : ((r : RegisterBit) → Contains (registers d) r → HasNoInputClock d r → ⊥) ⊎ ((r : RegisterBit) × IsFirst (HasNoInputClock d) (registers d) r) → ((n : List ℕ) × IsFirstRegister d (HasNoInputClock d) n) ⊎ All (HasClock d) (registers d)
    from (inl none) = inr (all_not (HasClock d) (decide_clock d) (registers d) none)
    from (inr r) = inl (bit_text d r.0.bit, (r.0, r.1, refl))

module _ (d e : Design) where
  module _ (r q : RegisterBit) where
    abbrev Apart : Bit → Bit → Type 0
    Apart b c = IsClockedBy d r b × (IsClockedBy e q c × (bit_text e c ≢ bit_text d b))

    decide_apart : (b c : Bit) → Decision (Apart b c)
    decide_apart b c = decide_both (decide_clocked d r b) (decide_both (decide_clocked e q c) (decide_not (decide_name (bit_text e c) (bit_text d b))))

    decide_other : Decision (HasOtherClock d e r q)
    decide_other = by (decide_some (λ b. (c : Bit) × Contains (top_inputs e) c × Apart b c) (λ b. decide_some (Apart b) (decide_apart b) (top_inputs e)) (top_inputs d))
      where
        by : Decision ((b : Bit) × Contains (top_inputs d) b × ((c : Bit) × Contains (top_inputs e) c × Apart b c)) → Decision (HasOtherClock d e r q)
        by (inl h) = inl (h.0, h.2.0, h.2.2.0, h.2.2.1.0, h.2.2.1.1)
        by (inr none) = inr (λ o. none (o.0, o.2.top, (o.1, o.3.top, (o.2, (o.3, o.4)))))

  abbrev Clashes : RegisterBit → RegisterBit → Type 0
  Clashes r q = (bit_text e q.bit ≡ bit_text d r.bit) × ((q.item.falling ≢ r.item.falling) ⊎ HasOtherClock d e r q)

  decide_clash : (r q : RegisterBit) → Decision (Clashes r q)
  decide_clash r q = decide_both (decide_name (bit_text e q.bit) (bit_text d r.bit)) (decide_either (decide_not (decide_bool q.item.falling r.item.falling)) (decide_other r q))

  decide_clocked_apart : (r : RegisterBit) → Decision (IsClockedDifferently d e r)
  decide_clocked_apart r = decide_same (λ h. (h.0, h.1, h.2.0, h.2.1), λ h. (h.0, h.1, (h.2, h.3))) (decide_some (Clashes r) (decide_clash r) (registers e))

  alike : ((r : RegisterBit) → Contains (registers d) r → IsClockedDifferently d e r → ⊥) → IsAbsentInDesigns None d e Clocks
  alike none r q has there same = record { edges = edges (decide_bool q.item.falling r.item.falling); clocks = λ b c first second. clocks b c first second (decide_name (bit_text e c) (bit_text d b)) }
    where
      edges : Decision (q.item.falling ≡ r.item.falling) → q.item.falling ≡ r.item.falling
      edges (inl one) = one
      edges (inr ne) = absurd (none r has (q, there, same, inl ne))

      clocks : (b c : Bit) → IsClockedBy d r b → IsClockedBy e q c → Decision (bit_text e c ≡ bit_text d b) → bit_text e c ≡ bit_text d b
      clocks b c first second (inl one) = one
      clocks b c first second (inr ne) = absurd (none r has (q, there, same, inr (b, c, first, second, ne)))

  clocked_apart : ((n : List ℕ) × IsFirstRegister d (IsClockedDifferently d e) n) ⊎ IsAbsentInDesigns None d e Clocks
  clocked_apart = from (first_or_none (IsClockedDifferently d e) decide_clocked_apart (registers d))
    where
      from : ((r : RegisterBit) → Contains (registers d) r → IsClockedDifferently d e r → ⊥) ⊎ ((r : RegisterBit) × IsFirst (IsClockedDifferently d e) (registers d) r) → ((n : List ℕ) × IsFirstRegister d (IsClockedDifferently d e) n) ⊎ IsAbsentInDesigns None d e Clocks
      from (inl none) = inr (alike none)
      from (inr r) = inl (bit_text d r.0.bit, (r.0, r.1, refl))

-- boxes

module _ (d : Design) where
  abbrev Meets : Bit → Bit → Type 0
  Meets x y = (x ≡ y) ⊎ Leads (dependences d) x y

  decide_depends : (s t : Scope) → Decision (DependsOnBox d s t)
  decide_depends s t =
      decide_same (into, back) (decide_some (λ x. (y : Bit) × Contains (output_bits t) y × Meets x y)
      (λ x. decide_some (Meets x) (λ y. decide_either (decide_bit x y) (decide_leads decide_bit (dependences d) x y)) (output_bits t)) (input_bits s))
    where
      Both : Type 0
      Both = (x : Bit) × Contains (input_bits s) x × ((y : Bit) × Contains (output_bits t) y × Meets x y)

      into : Both → DependsOnBox d s t
      into h = record { input = h.0; output = h.2.0; of_one = h.1; of_other = h.2.1; depends = h.2.2 }

      back : DependsOnBox d s t → Both
      back on = (on.input, on.of_one, (on.output, on.of_other, on.depends))

  abbrev On : Scope → Type 0
  On s = (t : Scope) × Contains (boxes d) t × DependsOnBox d s t

  decide_on : (s : Scope) → Decision (On s)
  decide_on s = decide_some (DependsOnBox d s) (decide_depends s) (boxes d)

  decide_none : (s : Scope) → Decision (DependsOnNone d s)
  decide_none s = decide_same (λ off t has on. off (t, has, on), λ none h. none h.0 h.1 h.2) (decide_not (decide_on s))

  -- from a box down to one that depends on none
  lowest : (height : Scope → ℕ) → ((s t : Scope) → Contains (boxes d) t → DependsOnBox d s t → height t < height s) → (fuel : ℕ) (s : Scope) → height s < fuel → Contains (boxes d) s
      → (t : Scope) × Contains (boxes d) t × DependsOnNone d t
  lowest height falls zero s lt has = absurd (omega (arith, lt))
  lowest height falls (suc fuel) s lt has = by (decide_on s) (λ t less there. lowest height falls fuel t (omega (arith, less, lt)) there)
    where
      Free : Type 0
      Free = (t : Scope) × Contains (boxes d) t × DependsOnNone d t

      by : Decision (On s) → ((t : Scope) → height t < height s → Contains (boxes d) t → Free) → Free
      by (inl (t, there, on)) below = below t (falls s t there on) there
      by (inr none) below = (s, has, λ t there on. none (t, there, on))

  first_free : BoxesHaveHeights → IsAllowed d → ((n : List ℕ) × IsReportedOfDesigns None d d Box n) ⊎ (boxes d ≡ [])
  first_free heights allowed = by (boxes d) refl
    where
      found : (s : Scope) → Contains (boxes d) s
          → ((x : Scope) → Contains (boxes d) x → DependsOnNone d x → ⊥) ⊎ ((x : Scope) × IsFirst (DependsOnNone d) (boxes d) x) → ((n : List ℕ) × IsReportedOfDesigns None d d Box n) ⊎ (boxes d ≡ [])
      found s has (inr r) = inl (path_text r.0.path, (r.0, r.1, refl))
      found s has (inl none) =
          let h = heights d allowed in
          let low = lowest h.0 h.1 (suc (h.0 s)) s (omega arith) has in
          absurd (none low.0 low.1 low.2)

      by : (all : List Scope) → boxes d ≡ all → ((n : List ℕ) × IsReportedOfDesigns None d d Box n) ⊎ (boxes d ≡ [])
      by [] same = inr same
      by (s ∷ all) same = found s (subst (λ l. Contains l s) (sym same) (contains_here s all)) (first_or_none (DependsOnNone d) decide_none (boxes d))

module _ (heights : BoxesHaveHeights) (ranked : CausesAreRanked) (care : Option (List ℕ)) (spec imp : Design) (allowed : IsAllowed spec) where
  reported_or_absent : (cause : PairCause) → ((n : List ℕ) × IsReportedOfDesigns care spec imp cause n) ⊎ IsAbsentInDesigns care spec imp cause
  reported_or_absent Box = first_free spec heights allowed
  reported_or_absent Care = care_there care (output_texts spec)
  reported_or_absent SpecInput = missing (input_texts spec) (input_texts imp)
  reported_or_absent SpecOutput = missing (compared care (output_texts spec)) (output_texts imp)
  reported_or_absent ImpInput = missing (input_texts imp) (input_texts spec)
  reported_or_absent ImpOutput = missing (output_texts imp) (compared care (output_texts spec))
  reported_or_absent SpecRegister = missing (register_texts spec) (register_texts imp)
  reported_or_absent ImpRegister = missing (register_texts imp) (register_texts spec)
  reported_or_absent SpecClock = clockless spec
  reported_or_absent ImpClock = clockless imp
  reported_or_absent Clocks = clocked_apart spec imp
  reported_or_absent Pins = elim (cases_lt most_pins (design_input_and_pin_count imp)) [ inl many ↦ inl ([], many) | inr few ↦ inr few ]

  abbrev Refused : Type 0
  Refused = (fault : MatchFault) × IsRefusalFor care spec imp fault

  -- no cause of the first ranks holds, or one of them is the first
  prefix : (n : ℕ) → n ≤ 12 → ((cause : PairCause) → pair_cause_rank cause < n → IsAbsentInDesigns care spec imp cause) ⊎ Refused
  prefix zero le = inl (λ cause lt. absurd (omega (arith, lt)))
  prefix (suc n) le = by (prefix n (omega (arith, le)))
    where
      next : (cause : PairCause) → pair_cause_rank cause ≡ n → ((other : PairCause) → pair_cause_rank other < n → IsAbsentInDesigns care spec imp other) → ((m : List ℕ) × IsReportedOfDesigns care spec imp cause m) ⊎ IsAbsentInDesigns care spec imp cause
          → ((other : PairCause) → pair_cause_rank other < suc n → IsAbsentInDesigns care spec imp other) ⊎ Refused
      next cause at before (inl (m, reported)) = inr (match_fault_of cause m, record { cause = cause; name = m; is = refl; reported = reported; earlier = λ other lt. before other (omega (arith, lt, at)) })
      next cause at before (inr absent) = inl (λ other lt. from other lt (less_or_same (pair_cause_rank other) n))
        where
          from : (other : PairCause) → pair_cause_rank other < suc n → (pair_cause_rank other < n) ⊎ ((n < pair_cause_rank other) ⊎ (pair_cause_rank other ≡ n)) → IsAbsentInDesigns care spec imp other
          from other lt (inl low) = before other low
          from other lt (inr (inl high)) = absurd (omega (arith, lt, high))
          from other lt (inr (inr same)) = subst (IsAbsentInDesigns care spec imp) (sym (ranked.one other cause (same ∙ sym at))) absent

      by : ((cause : PairCause) → pair_cause_rank cause < n → IsAbsentInDesigns care spec imp cause) ⊎ Refused → ((cause : PairCause) → pair_cause_rank cause < suc n → IsAbsentInDesigns care spec imp cause) ⊎ Refused
      by (inr refused) = inr refused
      by (inl before) = let c = ranked.each n (omega (arith, le)) in next c.0 c.1 before (reported_or_absent c.0)

  fits : DesignsFit care spec imp ⊎ Refused
  fits = from (prefix 12 (omega arith))
    where
      from : ((cause : PairCause) → pair_cause_rank cause < 12 → IsAbsentInDesigns care spec imp cause) ⊎ Refused → DesignsFit care spec imp ⊎ Refused
      from (inl none) = inl (λ cause. none cause (ranked.below cause))
      from (inr refused) = inr refused

module _ (heights : BoxesHaveHeights) (ranked : CausesAreRanked) where
  pub fit_or_refused : FitOrRefused
  fit_or_refused care spec imp allowed = fits heights ranked care spec imp allowed
