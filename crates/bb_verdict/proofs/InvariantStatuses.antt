-- Two texts have one status with an invariant: that of the checks where it is kept and not in doubt, and that of an open question where
-- an event breaks it.
use Rattle.std.proofs.Common.{◌≡◌, ◌⊎◌, ◌∙◌, ℕ, List, [], Option, None, Some, refl, sym, subst, inl, inr}
use Rattle.std.specs.Prelude.{IfSome}
use Rattle.bb_equiv.specs.Invariants.{IsBrokenBy}
use Rattle.bb_equiv.specs.Laws.Invariants.{InvariantsAreNotBroken}
use Rattle.bb_equiv.specs.Laws.DesignRefusals.{FittingDesignsHavePairs}
use Rattle.bb_frontend.specs.declared.refusal.Refusal.{Refusal}
use Rattle.bb_frontend.specs.TextDesigns.{TextDesignsAreOne}
use Rattle.bb_lemmas.proofs.Deciding.{Decision, decide_number}
use Rattle.bb_verdict.specs.declared.requested.TextComparison.{TextComparison}
use Rattle.bb_verdict.specs.InvariantAnswers.{AnswersTexts, BrokenInvariant, HasInvariant, IsBrokenReport, IsDoubted, IsUndecided, JudgesBy, JudgesWith, KeepsInvariant, KeptInvariant, RefusedWith, UndecidedInvariant, invariant_name}
use Rattle.bb_verdict.specs.Laws.InvariantAnswers.{AnswersHaveOneStatus, AnswersNeverClash, AnswersToTextsAreMeant, BrokenAreLeftOpen}
use Rattle.bb_verdict.specs.Laws.TextAnswers.{AnswersMayDependOnSearch, StatusesAreOne}
use Rattle.bb_verdict.specs.Laws.TextPairs.{DesignsAreAllowed, NotFinishedAndRefuted, NotPairAndRefusal}
use Rattle.bb_verdict.specs.TextPairs.{AreLeftOpen, DoFit, IsRefusal}
use Rattle.bb_verdict.specs.TextAnswers.{Judges}
use Rattle.bb_verdict.proofs.StatusLaw.{same_call}

pub answers_never_clash : AnswersToTextsAreMeant → NotFinishedAndRefuted → AnswersNeverClash
answers_never_clash meant apart requested spec imp status other text reported a b zero one =
    let finished = (meant requested spec imp status text a).finished zero in
    let refuted = (meant requested spec imp other reported b).refuted one in
    apart requested requested spec imp finished.1.0 (same_call requested) finished.1.2.0.finished refuted.0

-- texts that fit are not refused
fitting_pass : DesignsAreAllowed → FittingDesignsHavePairs → NotPairAndRefusal → (requested : TextComparison) (spec imp : List ℕ) (fault : Refusal) → DoFit requested spec imp → IsRefusal requested spec imp fault → ⊥
fitting_pass allowed pairs apart requested spec imp fault (s, i, are, fit) is =
    let pair = pairs requested.care requested.options.shared s i (allowed requested.spec_top spec s are.spec_design) (allowed requested.imp_top imp i are.imp_design) fit in
    apart requested spec imp pair.0 fault (s, i, are, pair.1) is

-- a kept invariant is not in doubt, and the checks do not leave the question open where the search may matter
abbrev AreSure : TextComparison → List ℕ → List ℕ → Type 0
AreSure requested spec imp = KeepsInvariant requested spec → IsDoubted requested spec ⊎ (AreLeftOpen requested spec imp × AnswersMayDependOnSearch requested spec imp) → ⊥

module _ (allowed : DesignsAreAllowed) (designs : TextDesignsAreOne) (never : InvariantsAreNotBroken) (requested : TextComparison) (name spec : List ℕ) where
  kept_or_broken : (text : List ℕ) → HasInvariant requested spec name → IsBrokenReport requested spec name text → ⊥
  kept_or_broken text (s, design, invariant) broken =
      let same : broken.s ≡ s = designs requested.spec_top spec broken.s s broken.design design in
      let by = subst (λ d. IsBrokenBy None d name (λ path. []) broken.states broken.event broken.next) same (broken.broken (λ path. [])) in
      never None name s (λ path. []) broken.states broken.event broken.next (allowed requested.spec_top spec s design) invariant by

  module _ (imp : List ℕ) where
    -- an answer that is no refusal: that of the checks, where the invariant is kept, or an open one, and if it is kept even so, too
    -- much is needed to find this out
    abbrev Outcome : ℕ → Type 0
    Outcome status = (HasInvariant requested spec name × (report : List ℕ) × Judges requested spec imp status report) ⊎ ((status ≡ 3) × (HasInvariant requested spec name → IsUndecided requested spec name))

    outcome : (status : ℕ) (text : List ℕ) → JudgesWith requested name spec imp status text → (status ≡ 2) ⊎ Outcome status
    outcome status text (RefusedWith fault is two line) = inl two
    outcome status text (KeptInvariant has report judged other behind) = inr (inl (has, report, judged))
    outcome status text (BrokenInvariant p implements broken three) = inr (inr (three, λ has. absurd (kept_or_broken text has broken)))
    outcome status text (UndecidedInvariant p implements undecided three line) = inr (inr (three, λ has. undecided))

    module _ (one : StatusesAreOne) (some : invariant_name requested ≡ Some name) (fixed : AreSure requested spec imp) where
      keeps : HasInvariant requested spec name → KeepsInvariant requested spec
      keeps has = subst (λ o. IfSome o (HasInvariant requested spec)) (sym some) has

      found_out : HasInvariant requested spec name → IsUndecided requested spec name → ⊥
      found_out has undecided = fixed (keeps has) (inl (name, some, inr undecided))

      same : (status other : ℕ) → Outcome status → Outcome other → status ≡ other
      same status other (inl kept) (inl also) = one requested spec imp status other kept.1 also.1 kept.2 also.2 (λ left depends. fixed (keeps kept.0) (inr (left, depends)))
      same status other (inl kept) (inr left) = absurd (found_out kept.0 (left.1 kept.0))
      same status other (inr left) (inl kept) = absurd (found_out kept.0 (left.1 kept.0))
      same status other (inr left) (inr also) = left.0 ∙ sym also.0

module _ (allowed : DesignsAreAllowed) (designs : TextDesignsAreOne) (never : InvariantsAreNotBroken) (meant : AnswersToTextsAreMeant) where
  pub broken_are_left_open : FittingDesignsHavePairs → NotPairAndRefusal → BrokenAreLeftOpen
  broken_are_left_open pairs apart requested name spec imp shown status text some broken fit answer =
      by (outcome allowed designs never requested name spec imp status text (subst (λ o. JudgesBy o requested spec imp status text) some answer))
    where
      by : (status ≡ 2) ⊎ Outcome allowed designs never requested name spec imp status → status ≡ 3
      by (inl two) = let line = (meant requested spec imp status text answer).refused two in absurd (fitting_pass allowed pairs apart requested spec imp line.0 fit line.1)
      by (inr (inl kept)) = absurd (kept_or_broken allowed designs never requested name spec shown kept.0 broken)
      by (inr (inr left)) = left.0

  module _ (one : StatusesAreOne) where
    -- where one answer is a refusal, so is the other
    refused_alike : (requested : TextComparison) (spec imp : List ℕ) (status other : ℕ) (text reported : List ℕ) → AnswersTexts requested spec imp status text → AnswersTexts requested spec imp other reported → status ≡ 2 → other ≡ 2
    refused_alike requested spec imp status other text reported a b two = ((meant requested spec imp other reported b).stays_refused text ((meant requested spec imp status text a).refused two)).0

    sure_statuses : (requested : TextComparison) (spec imp : List ℕ) (status other : ℕ) (text reported : List ℕ) → AnswersTexts requested spec imp status text → AnswersTexts requested spec imp other reported → AreSure requested spec imp → status ≡ other
    sure_statuses requested spec imp status other text reported a b fixed = by (invariant_name requested) refl a b
      where
        by : (o : Option (List ℕ)) → invariant_name requested ≡ o → JudgesBy o requested spec imp status text → JudgesBy o requested spec imp other reported → status ≡ other
        by None none first second = one requested spec imp status other text reported first second (λ left depends. fixed (subst (λ o. IfSome o (HasInvariant requested spec)) (sym none) tt) (inr (left, depends)))
        by (Some name) some first second = elim (outcome allowed designs never requested name spec imp status text first) [
          | inl two ↦ two ∙ sym (refused_alike requested spec imp status other text reported a b two)
          | inr here ↦ elim (outcome allowed designs never requested name spec imp other reported second) [
            | inl two ↦ refused_alike requested spec imp other status reported text b a two ∙ sym two
            | inr there ↦ same allowed designs never requested name spec imp one some fixed status other here there
          ]
        ]

    pub answers_have_one_status : AnswersHaveOneStatus
    answers_have_one_status requested spec imp status other text reported a b fixed = by (decide_number status other)
      where
        by : Decision (status ≡ other) → status ≡ other
        by (inl same) = same
        by (inr differ) = sure_statuses requested spec imp status other text reported a b (λ kept unsure. fixed (record {
          fit = (meant requested spec imp status text a).fit (λ two. differ (two ∙ sym (refused_alike requested spec imp status other text reported a b two)));
          kept = kept;
          not_open = λ stays. differ ((meant requested spec imp status text a).stays_open stays ∙ sym ((meant requested spec imp other reported b).stays_open stays));
          unsure = unsure;
        }))
