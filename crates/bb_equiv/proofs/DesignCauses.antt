-- Two designs do not both fit and have a refusal, and have one first refusal at most.
use Rattle.std.proofs.Common.{◌≡◌, ◌⊎◌, ℕ, ◌<◌, List, Contains, Option, refl, sym, ap, ◌∙◌, subst, inl, inr, arith}
use Rattle.std.specs.Prelude.{All, IfSome}
use Rattle.std.proofs.lemmas.List.Elements.{All-contains}
use Rattle.bb_design.specs.Hierarchy.{Design, Scope, boxes}
use Rattle.bb_design.specs.Refusals.{input_texts, output_texts, register_texts}
use Rattle.bb_design.specs.Registers.{RegisterBit, registers}
use Rattle.bb_design.specs.Texts.{bit_text, path_text}
use Rattle.bb_match.specs.declared.fault.MatchFault.TheVariants as faults
use Rattle.bb_match.specs.Laws.{CausesAreRanked}
use Rattle.bb_match.specs.Refusals.{PairCause, Box, Care, SpecInput, SpecOutput, ImpInput, ImpOutput, SpecRegister, ImpRegister, SpecClock, ImpClock, Clocks, Pins, AreAmong, IsFirstMissing, IsMissing, compared, match_fault_of, pair_cause_rank}
use Rattle.bb_equiv.specs.DesignFit.{DependsOnNone, HasClock, HasNoInputClock, IsClockedDifferently, IsFirstRegister, IsReportedOfDesigns, IsAbsentInDesigns}
use Rattle.bb_equiv.specs.Laws.DesignRefusals.{DesignRefusalsAreOne, NotFitAndRefused}
use Rattle.bb_lemmas.proofs.Firsts.{first_there, first_one}
use Rattle.bb_lemmas.proofs.Members.{none_in_nil}
use Rattle.bb_lemmas.proofs.Orders.{less_or_same}
use Rattle.bb_lemmas.proofs.Places.{some_same}

missing_not_among : (texts others : List (List ℕ)) (n : List ℕ) → IsFirstMissing texts others n → AreAmong texts others → ⊥
missing_not_among texts others n reported among = reported.holds (All-contains (Contains others) texts n among (first_there (IsMissing others) texts n reported))

clockless_not_clocked : (d : Design) (n : List ℕ) → IsFirstRegister d (HasNoInputClock d) n → All (HasClock d) (registers d) → ⊥
clockless_not_clocked d n reported all = reported.1.holds (All-contains (HasClock d) (registers d) reported.0 all (first_there (HasNoInputClock d) (registers d) reported.0 reported.1))

-- a cause does not hold where it is absent
pub reported_not_absent : (care : Option (List ℕ)) (spec imp : Design) (cause : PairCause) (n : List ℕ) → IsReportedOfDesigns care spec imp cause n → IsAbsentInDesigns care spec imp cause → ⊥
reported_not_absent care spec imp Box n reported absent = none_in_nil reported.0 (subst (λ l. Contains l reported.0) absent (first_there (DependsOnNone spec) (boxes spec) reported.0 reported.1))
reported_not_absent care spec imp Care n reported absent = reported.1 (subst (λ c. IfSome c (Contains (output_texts spec))) reported.0 absent)
reported_not_absent care spec imp SpecInput n reported absent = missing_not_among (input_texts spec) (input_texts imp) n reported absent
reported_not_absent care spec imp SpecOutput n reported absent = missing_not_among (compared care (output_texts spec)) (output_texts imp) n reported absent
reported_not_absent care spec imp ImpInput n reported absent = missing_not_among (input_texts imp) (input_texts spec) n reported absent
reported_not_absent care spec imp ImpOutput n reported absent = missing_not_among (output_texts imp) (compared care (output_texts spec)) n reported absent
reported_not_absent care spec imp SpecRegister n reported absent = missing_not_among (register_texts spec) (register_texts imp) n reported absent
reported_not_absent care spec imp ImpRegister n reported absent = missing_not_among (register_texts imp) (register_texts spec) n reported absent
reported_not_absent care spec imp SpecClock n reported absent = clockless_not_clocked spec n reported absent
reported_not_absent care spec imp ImpClock n reported absent = clockless_not_clocked imp n reported absent
reported_not_absent care spec imp Clocks n reported absent =
    let apart = reported.1.holds in
    let alike = absent reported.0 apart.0 (first_there (IsClockedDifferently spec imp) (registers spec) reported.0 reported.1) apart.1 apart.2 in
    elim apart.3 [ inl edge ↦ edge alike.edges | inr clock ↦ clock.4 (alike.clocks clock.0 clock.1 clock.2 clock.3) ]
reported_not_absent care spec imp Pins n reported absent = omega (arith, reported, absent)

-- for one cause one name is reported
pub reported_one : (care : Option (List ℕ)) (spec imp : Design) (cause : PairCause) (n m : List ℕ) → IsReportedOfDesigns care spec imp cause n → IsReportedOfDesigns care spec imp cause m → match_fault_of cause n ≡ match_fault_of cause m
reported_one care spec imp Box n m a b = ap faults.SpecBox (a.2 ∙ ap (λ (s : Scope). path_text s.path) (first_one (DependsOnNone spec) (boxes spec) a.0 b.0 a.1 b.1) ∙ sym b.2)
reported_one care spec imp Care n m a b = ap faults.NoCare (some_same n m (sym a.0 ∙ b.0))
reported_one care spec imp SpecInput n m a b = ap faults.PortDiffers (first_one (IsMissing (input_texts imp)) (input_texts spec) n m a b)
reported_one care spec imp SpecOutput n m a b = ap faults.PortDiffers (first_one (IsMissing (output_texts imp)) (compared care (output_texts spec)) n m a b)
reported_one care spec imp ImpInput n m a b = ap faults.PortDiffers (first_one (IsMissing (input_texts spec)) (input_texts imp) n m a b)
reported_one care spec imp ImpOutput n m a b = ap faults.PortDiffers (first_one (IsMissing (compared care (output_texts spec))) (output_texts imp) n m a b)
reported_one care spec imp SpecRegister n m a b = ap faults.RegDiffers (first_one (IsMissing (register_texts imp)) (register_texts spec) n m a b)
reported_one care spec imp ImpRegister n m a b = ap faults.RegDiffers (first_one (IsMissing (register_texts spec)) (register_texts imp) n m a b)
reported_one care spec imp SpecClock n m a b = ap faults.ClockNotInput (a.2 ∙ ap (λ (r : RegisterBit). bit_text spec r.bit) (first_one (HasNoInputClock spec) (registers spec) a.0 b.0 a.1 b.1) ∙ sym b.2)
reported_one care spec imp ImpClock n m a b = ap faults.ClockNotInput (a.2 ∙ ap (λ (r : RegisterBit). bit_text imp r.bit) (first_one (HasNoInputClock imp) (registers imp) a.0 b.0 a.1 b.1) ∙ sym b.2)
reported_one care spec imp Clocks n m a b = ap faults.ClockDiffers (a.2 ∙ ap (λ (r : RegisterBit). bit_text spec r.bit) (first_one (IsClockedDifferently spec imp) (registers spec) a.0 b.0 a.1 b.1) ∙ sym b.2)
reported_one care spec imp Pins n m a b = refl

pub not_fit_and_refused : NotFitAndRefused
not_fit_and_refused care spec imp fault fit r = reported_not_absent care spec imp r.cause r.name r.reported (fit r.cause)

module _ (ranked : CausesAreRanked) where
  pub design_refusals_are_one : DesignRefusalsAreOne
  design_refusals_are_one care spec imp e f a b = from (less_or_same (pair_cause_rank a.cause) (pair_cause_rank b.cause))
    where
      from : (pair_cause_rank a.cause < pair_cause_rank b.cause) ⊎ ((pair_cause_rank b.cause < pair_cause_rank a.cause) ⊎ (pair_cause_rank a.cause ≡ pair_cause_rank b.cause)) → e ≡ f
      from (inl h) = absurd (reported_not_absent care spec imp a.cause a.name a.reported (b.earlier a.cause h))
      from (inr (inl h)) = absurd (reported_not_absent care spec imp b.cause b.name b.reported (a.earlier b.cause h))
      from (inr (inr h)) =
          let same : a.cause ≡ b.cause = ranked.one a.cause b.cause h in
          let reported : IsReportedOfDesigns care spec imp b.cause a.name = subst (λ c. IsReportedOfDesigns care spec imp c a.name) same a.reported in
          a.is ∙ ap (λ c. match_fault_of c a.name) same ∙ reported_one care spec imp b.cause a.name b.name reported b.reported ∙ sym b.is
