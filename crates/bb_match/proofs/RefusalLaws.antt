-- No two netlists fit and are refused, and they have one first refusal at most.
use Rattle.std.proofs.Common.{◌≡◌, ◌⊎◌, ℕ, zero, suc, ◌<◌, List, ◌∷◌, Contains, Option, Some, None, is_some, true≢false, refl, sym, ap, subst, ◌∙◌, inl, inr, arith}
use Rattle.std.specs.Prelude.{IfSome, IsSome}
use Rattle.std.proofs.lemmas.List.Elements.{All-contains}
use Rattle.std.proofs.lemmas.Option.{same_Some}
use Rattle.bb_net.specs.Pairs.{BoxTexts}
use Rattle.bb_net.specs.declared.flat.Reg.{Reg}
use Rattle.bb_net.specs.Flats.{FlatNet, HaveClocks}
use Rattle.bb_match.specs.declared.fault.MatchFault.TheVariants as faults
use Rattle.bb_net.specs.CutPoints.{state_texts}
use Rattle.bb_match.specs.Refusals.{IsMissing, IsFirstMissing, AreAmong, compared, HasNoClock, IsFirstWithoutClock, IsClockedApart, HasSameClock, PairCause, Box, Care, SpecInput, SpecOutput, ImpInput, ImpOutput, SpecRegister, ImpRegister, SpecClock, ImpClock, Clocks, Pins, pair_cause_rank, match_fault_of, IsReported, IsAbsent}
use Rattle.bb_match.specs.Laws.{CausesAreRanked, NotFitAndRefused, FirstRefusalsAreOne}
use Rattle.bb_lemmas.proofs.Orders.{less_or_same}
use Rattle.bb_lemmas.proofs.Firsts.{first_there, first_one}

pub none_is_not_some : {A : Type 0} (o : Option A) → o ≡ None → IsSome o → ⊥
none_is_not_some None e h = true≢false (sym h)
none_is_not_some (Some x) e h = true≢false (sym h ∙ ap is_some e)

missing_not_among : (texts others : List (List ℕ)) (n : List ℕ) → IsFirstMissing texts others n → AreAmong texts others → ⊥
missing_not_among texts others n reported among = reported.holds (All-contains (Contains others) texts n among (first_there (IsMissing others) texts n reported))

no_clock_not_there : (f : FlatNet) (n : List ℕ) → IsFirstWithoutClock f n → HaveClocks f → ⊥
no_clock_not_there f n reported clocks = none_is_not_some reported.0.clock reported.1.holds (All-contains (λ r. IsSome r.clock) f.regs reported.0 clocks (first_there HasNoClock f.regs reported.0 reported.1))

-- a cause does not hold where it is absent
reported_not_absent : (care : Option (List ℕ)) (spec imp : FlatNet) (cause : PairCause) (n : List ℕ) → IsReported care spec imp cause n → IsAbsent care spec imp cause → ⊥
reported_not_absent care spec imp Box n reported absent = cc (reported.2, absent)
reported_not_absent care spec imp Care n reported absent = reported.1 (subst (λ o. IfSome o (Contains spec.outs)) reported.0 absent)
reported_not_absent care spec imp SpecInput n reported absent = missing_not_among spec.ins imp.ins n reported absent
reported_not_absent care spec imp SpecOutput n reported absent = missing_not_among (compared care spec.outs) imp.outs n reported absent
reported_not_absent care spec imp ImpInput n reported absent = missing_not_among imp.ins spec.ins n reported absent
reported_not_absent care spec imp ImpOutput n reported absent = missing_not_among imp.outs (compared care spec.outs) n reported absent
reported_not_absent care spec imp SpecRegister n reported absent = missing_not_among (state_texts spec) (state_texts imp) n reported absent
reported_not_absent care spec imp ImpRegister n reported absent = missing_not_among (state_texts imp) (state_texts spec) n reported absent
reported_not_absent care spec imp SpecClock n reported absent = no_clock_not_there spec n reported absent
reported_not_absent care spec imp ImpClock n reported absent = no_clock_not_there imp n reported absent
reported_not_absent care spec imp Clocks n reported absent =
    let apart = reported.1.holds in
    let alike = All-contains (HasSameClock spec imp) spec.regs reported.0 absent (first_there (IsClockedApart spec imp) spec.regs reported.0 reported.1) apart.0 apart.1 apart.2 in
    elim apart.3 [ inl edge ↦ edge alike.0 | inr clock ↦ clock alike.1 ]
reported_not_absent care spec imp Pins n reported absent = omega (arith, reported, absent)

box_one : (boxes rest more : List BoxTexts) (a b : BoxTexts) → boxes ≡ a ∷ rest → boxes ≡ b ∷ more → a ≡ b
box_one boxes rest more a b p q = cc (p, q)

-- for one cause one name is reported
reported_one : (care : Option (List ℕ)) (spec imp : FlatNet) (cause : PairCause) (n m : List ℕ) → IsReported care spec imp cause n → IsReported care spec imp cause m → match_fault_of cause n ≡ match_fault_of cause m
reported_one care spec imp Box n m a b = ap faults.SpecBox (a.3 ∙ ap (λ (t : BoxTexts). t.path) (box_one spec.boxes a.1 b.1 a.0 b.0 a.2 b.2) ∙ sym b.3)
reported_one care spec imp Care n m a b = ap faults.NoCare (same_Some n m (sym a.0 ∙ b.0))
reported_one care spec imp SpecInput n m a b = ap faults.PortDiffers (first_one (IsMissing imp.ins) spec.ins n m a b)
reported_one care spec imp SpecOutput n m a b = ap faults.PortDiffers (first_one (IsMissing imp.outs) (compared care spec.outs) n m a b)
reported_one care spec imp ImpInput n m a b = ap faults.PortDiffers (first_one (IsMissing spec.ins) imp.ins n m a b)
reported_one care spec imp ImpOutput n m a b = ap faults.PortDiffers (first_one (IsMissing (compared care spec.outs)) imp.outs n m a b)
reported_one care spec imp SpecRegister n m a b = ap faults.RegDiffers (first_one (IsMissing (state_texts imp)) (state_texts spec) n m a b)
reported_one care spec imp ImpRegister n m a b = ap faults.RegDiffers (first_one (IsMissing (state_texts spec)) (state_texts imp) n m a b)
reported_one care spec imp SpecClock n m a b = ap faults.ClockNotInput (a.2 ∙ ap (λ (r : Reg). r.text) (first_one HasNoClock spec.regs a.0 b.0 a.1 b.1) ∙ sym b.2)
reported_one care spec imp ImpClock n m a b = ap faults.ClockNotInput (a.2 ∙ ap (λ (r : Reg). r.text) (first_one HasNoClock imp.regs a.0 b.0 a.1 b.1) ∙ sym b.2)
reported_one care spec imp Clocks n m a b = ap faults.ClockDiffers (a.2 ∙ ap (λ (r : Reg). r.text) (first_one (IsClockedApart spec imp) spec.regs a.0 b.0 a.1 b.1) ∙ sym b.2)
reported_one care spec imp Pins n m a b = refl

-- the cause of a rank
unfoldable pub cause_at : ℕ → PairCause
cause_at zero = Box
cause_at (suc zero) = Care
cause_at (suc (suc zero)) = SpecInput
cause_at (suc (suc (suc zero))) = SpecOutput
cause_at (suc (suc (suc (suc zero)))) = ImpInput
cause_at (suc (suc (suc (suc (suc zero))))) = ImpOutput
cause_at (suc (suc (suc (suc (suc (suc zero)))))) = SpecRegister
cause_at (suc (suc (suc (suc (suc (suc (suc zero))))))) = ImpRegister
cause_at (suc (suc (suc (suc (suc (suc (suc (suc zero)))))))) = SpecClock
cause_at (suc (suc (suc (suc (suc (suc (suc (suc (suc zero))))))))) = ImpClock
cause_at (suc (suc (suc (suc (suc (suc (suc (suc (suc (suc zero)))))))))) = Clocks
cause_at (suc (suc (suc (suc (suc (suc (suc (suc (suc (suc (suc n))))))))))) = Pins

pub at_rank : (c : PairCause) → cause_at (pair_cause_rank c) ≡ c
unfolding cause_at
at_rank Box = refl
at_rank Care = refl
at_rank SpecInput = refl
at_rank SpecOutput = refl
at_rank ImpInput = refl
at_rank ImpOutput = refl
at_rank SpecRegister = refl
at_rank ImpRegister = refl
at_rank SpecClock = refl
at_rank ImpClock = refl
at_rank Clocks = refl
at_rank Pins = refl

-- each rank is that of the cause which is at it
rank_at : (n : ℕ) → n < 12 → pair_cause_rank (cause_at n) ≡ n
unfolding cause_at
rank_at zero lt = refl
rank_at (suc zero) lt = refl
rank_at (suc (suc zero)) lt = refl
rank_at (suc (suc (suc zero))) lt = refl
rank_at (suc (suc (suc (suc zero)))) lt = refl
rank_at (suc (suc (suc (suc (suc zero))))) lt = refl
rank_at (suc (suc (suc (suc (suc (suc zero)))))) lt = refl
rank_at (suc (suc (suc (suc (suc (suc (suc zero))))))) lt = refl
rank_at (suc (suc (suc (suc (suc (suc (suc (suc zero)))))))) lt = refl
rank_at (suc (suc (suc (suc (suc (suc (suc (suc (suc zero))))))))) lt = refl
rank_at (suc (suc (suc (suc (suc (suc (suc (suc (suc (suc zero)))))))))) lt = refl
rank_at (suc (suc (suc (suc (suc (suc (suc (suc (suc (suc (suc n))))))))))) lt = omega (arith, lt)

pub below_twelve : (c : PairCause) → pair_cause_rank c < 12
below_twelve Box = omega arith
below_twelve Care = omega arith
below_twelve SpecInput = omega arith
below_twelve SpecOutput = omega arith
below_twelve ImpInput = omega arith
below_twelve ImpOutput = omega arith
below_twelve SpecRegister = omega arith
below_twelve ImpRegister = omega arith
below_twelve SpecClock = omega arith
below_twelve ImpClock = omega arith
below_twelve Clocks = omega arith
below_twelve Pins = omega arith

pub causes_are_ranked : CausesAreRanked
causes_are_ranked = record { one = λ c e same. sym (at_rank c) ∙ ap cause_at same ∙ at_rank e; below = below_twelve; each = λ n lt. (cause_at n, rank_at n lt) }

pub not_fit_and_refused : NotFitAndRefused
not_fit_and_refused care spec imp fault fit r = reported_not_absent care spec imp r.cause r.name r.reported (fit r.cause)

pub first_refusals_are_one : FirstRefusalsAreOne
first_refusals_are_one care spec imp e f a b = from (less_or_same (pair_cause_rank a.cause) (pair_cause_rank b.cause))
  where
    from : (pair_cause_rank a.cause < pair_cause_rank b.cause) ⊎ ((pair_cause_rank b.cause < pair_cause_rank a.cause) ⊎ (pair_cause_rank a.cause ≡ pair_cause_rank b.cause)) → e ≡ f
    from (inl h) = absurd (reported_not_absent care spec imp a.cause a.name a.reported (b.earlier a.cause h))
    from (inr (inl h)) = absurd (reported_not_absent care spec imp b.cause b.name b.reported (a.earlier b.cause h))
    from (inr (inr h)) =
        let one : a.cause ≡ b.cause = sym (at_rank a.cause) ∙ ap cause_at h ∙ at_rank b.cause in
        let reported : IsReported care spec imp b.cause a.name = subst (λ c. IsReported care spec imp c a.name) one a.reported in
        a.is ∙ ap (λ c. match_fault_of c a.name) one ∙ reported_one care spec imp b.cause a.name b.name reported b.reported ∙ sym b.is
