-- Two texts have one status, but for what may depend on the search, since what is finished is not refuted and what one answer leaves
-- open every other does; and so they have one report.
use Rattle.std.proofs.Common.{◌≡◌, ℕ, List, refl, sym, ◌∙◌, subst}
use Rattle.bb_equiv.specs.Comparable.{AreComparable}
use Rattle.bb_equiv.specs.DesignEquivalence.{ContentsMakeEquivalent, MayFill, NoContentsMakeEquivalent}
use Rattle.bb_equiv.specs.Laws.Mistakes.{AllHaveCounterexamples, CounterexamplesExist}
use Rattle.bb_equiv.specs.Laws.Runs.{EventsShowCounterexamples}
use Rattle.bb_design.specs.Hierarchy.{Design}
use Rattle.bb_checks.specs.Laws.IsomorphicPairs.{IsomorphicPairsHaveOneReport, IsomorphicPairsHaveOneBeginning}
use Rattle.bb_checks.specs.Laws.{LeftOpenStaysOpen}
use Rattle.bb_checks.specs.declared.verdict.Verdict.{Verdict}
use Rattle.bb_checks.specs.declared.verdict.Verdict.TheVariants as verdicts
use Rattle.bb_checks.specs.Reports.{status_of, verdict_of}
use Rattle.bb_verdict.specs.declared.requested.TextComparison.{TextComparison}
use Rattle.bb_verdict.specs.Laws.TextAnswers.{ErrorsRefute, RepairsFinish, OpenAnswersLeaveOpen, StayingOpenAreAnswered, AnswersMayDependOnSearch, StatusesAreOne, StatusesNeverClash, ReportsAreOne, ReportsBeginAsOne}
use Rattle.bb_verdict.specs.TextAnswers.{Judges, Refused, Judged}
use Rattle.bb_frontend.specs.TextDesigns.{IsReadAs, TextsReadAsOne}
use Rattle.bb_verdict.specs.Laws.TextPairs.{RequestTheSamePair, DesignsAreAllowed, FittingAreRefutedByDesigns, NotFinishedAndRefuted, NotPairAndRefusal, RefutedAreSeen, RefutedHaveCounterexamples, TextPairsAreIsomorphic}
use Rattle.bb_verdict.specs.TextPairs.{AreLeftOpen, AreRefuted, AreStayingOpen}
use Rattle.bb_verdict.proofs.AnswerLaws.{is_pair}
use Rattle.bb_verdict.proofs.TextPairLaws.{reads_as}

-- what is refuted is so by the designs of the texts
module _ (one : TextsReadAsOne) (requested : TextComparison) (spec imp : List ℕ) (refuted : AreRefuted requested spec imp) where
  refuted_by : (s i : Design) → IsReadAs requested.spec_top spec s → IsReadAs requested.imp_top imp i → NoContentsMakeEquivalent requested.care requested.options.shared s i
  refuted_by s i spec_reads imp_reads =
      let left : refuted.s ≡ s = one requested.spec_top spec refuted.s s refuted.reads.spec_reads spec_reads in
      let right : refuted.i ≡ i = one requested.imp_top imp refuted.i i refuted.reads.imp_reads imp_reads in
      subst (λ z. NoContentsMakeEquivalent requested.care requested.options.shared z i) left (subst (λ z. NoContentsMakeEquivalent requested.care requested.options.shared refuted.s z) right refuted.none)

-- no two texts are both finished and refuted, whatever the bounds
pub not_finished_and_refuted : TextsReadAsOne → NotFinishedAndRefuted
not_finished_and_refuted one requested other spec imp text alike finished refuted =
    let spec_reads = subst (λ top. IsReadAs top spec finished.s) (sym alike.spec_top) finished.reads.spec_reads in
    let imp_reads = subst (λ top. IsReadAs top imp finished.i) (sym alike.imp_top) finished.reads.imp_reads in
    let none = refuted_by one other spec imp refuted finished.s finished.i spec_reads imp_reads in
    let c = finished.contents in
    let fills = subst (λ shared. MayFill shared finished.i c.0) (sym alike.shared) c.1 in
    none c.0 fills (subst (λ care. ContentsMakeEquivalent care finished.s finished.i c.0) (sym alike.care) (finished.agree c.0 c.1.fit c.2))

pub fitting_are_refuted_by_designs : TextsReadAsOne → FittingAreRefutedByDesigns
fitting_are_refuted_by_designs one requested spec imp (s, i, are, fit) refuted =
    (s, i, are, fit, refuted_by one requested spec imp refuted s i (reads_as are.spec_design) (reads_as are.imp_design))

pub refuted_have_counterexamples : CounterexamplesExist → RefutedHaveCounterexamples
refuted_have_counterexamples exist requested spec imp refuted = exist requested.care requested.options.shared refuted.s refuted.i refuted.comparable refuted.none

pub refuted_are_seen : TextsReadAsOne → DesignsAreAllowed → CounterexamplesExist → EventsShowCounterexamples → RefutedAreSeen
refuted_are_seen one allowed exist shown requested spec imp (s, i, are, fit) refuted =
    let left : refuted.s ≡ s = one requested.spec_top spec refuted.s s refuted.reads.spec_reads (reads_as are.spec_design) in
    let right : refuted.i ≡ i = one requested.imp_top imp refuted.i i refuted.reads.imp_reads (reads_as are.imp_design) in
    let all = refuted_have_counterexamples exist requested spec imp refuted in
    let each = subst (λ z. AllHaveCounterexamples requested.care requested.options.shared z i) left (subst (λ z. AllHaveCounterexamples requested.care requested.options.shared refuted.s z) right all) in
    let can = subst (λ z. AreComparable requested.care z i) left (subst (λ z. AreComparable requested.care refuted.s z) right refuted.comparable) in
    (s, i, are, λ contents fill. shown requested.care s i contents (allowed requested.spec_top spec s are.spec_design) (allowed requested.imp_top imp i are.imp_design) can fill.fit (each contents fill))

-- a call asks the same as itself
pub same_call : (requested : TextComparison) → RequestTheSamePair requested requested
same_call requested = record { spec_top = refl; imp_top = refl; care = refl; shared = refl }

pub statuses_never_clash : TextsReadAsOne → RepairsFinish → ErrorsRefute → StatusesNeverClash
statuses_never_clash one finish refute requested spec imp status other text reported a b zero is_one =
    not_finished_and_refuted one requested requested spec imp text (same_call requested) (finish requested spec imp status text a zero).finished (refute requested spec imp other reported b is_one)

-- where they are left open, the answer does not depend on the search
abbrev IsFixed : TextComparison → List ℕ → List ℕ → Type 0
IsFixed requested spec imp = AreLeftOpen requested spec imp → AnswersMayDependOnSearch requested spec imp → ⊥

-- and so it stays open
stays : LeftOpenStaysOpen → (requested : TextComparison) (spec imp : List ℕ) → IsFixed requested spec imp → AreLeftOpen requested spec imp → AreStayingOpen requested spec imp
stays stay requested spec imp fixed left =
    let (p, occurs) = left.pair in
    (p, occurs, stay p requested.options (λ depends. fixed left (p, occurs, depends)) (left.left p occurs))

module _ (clash : StatusesNeverClash) (stay : LeftOpenStaysOpen) (leave : OpenAnswersLeaveOpen) (answered : StayingOpenAreAnswered) where
  -- where one is open, so is the other
  open_isomorphic : (requested : TextComparison) (spec imp : List ℕ) (status other : ℕ) (text reported : List ℕ) → Judges requested spec imp status text → Judges requested spec imp other reported → IsFixed requested spec imp → status ≡ 3 → other ≡ 3
  open_isomorphic requested spec imp status other text reported a b fixed three = answered requested spec imp other reported b (stays stay requested spec imp fixed (leave requested spec imp status text a three))

  module _ (requested : TextComparison) (spec imp : List ℕ) (status other : ℕ) (text reported : List ℕ) (a : Judges requested spec imp status text) (b : Judges requested spec imp other reported) (fixed : IsFixed requested spec imp) where
    -- two verdicts are one
    same : (v w : Verdict) → status ≡ status_of v → other ≡ status_of w → status ≡ other
    same verdicts.Open w s t = s ∙ sym (open_isomorphic requested spec imp status other text reported a b fixed s)
    same verdicts.Error verdicts.Open s t = open_isomorphic requested spec imp other status reported text b a fixed t ∙ sym t
    same verdicts.Repairable verdicts.Open s t = open_isomorphic requested spec imp other status reported text b a fixed t ∙ sym t
    same verdicts.Error verdicts.Error s t = s ∙ sym t
    same verdicts.Error verdicts.Repairable s t = absurd (clash requested spec imp other status reported text b a t s)
    same verdicts.Repairable verdicts.Error s t = absurd (clash requested spec imp status other text reported a b s t)
    same verdicts.Repairable verdicts.Repairable s t = s ∙ sym t

pub statuses_are_one : NotPairAndRefusal → StatusesNeverClash → LeftOpenStaysOpen → OpenAnswersLeaveOpen → StayingOpenAreAnswered → StatusesAreOne
statuses_are_one apart clash stay leave answered requested spec imp status other text reported (Refused r is s t) (Refused q be u v) fixed = s ∙ sym u
statuses_are_one apart clash stay leave answered requested spec imp status other text reported (Refused r is s t) (Judged q others e j be also up u more after v) fixed = absurd (apart requested spec imp q r (e, j, be, also) is)
statuses_are_one apart clash stay leave answered requested spec imp status other text reported (Judged p lines d i are for climb s rest follows t) (Refused r is u v) fixed = absurd (apart requested spec imp p r (d, i, are, for) is)
statuses_are_one apart clash stay leave answered requested spec imp status other text reported (Judged p lines d i are for climb s rest follows t) (Judged q others e j be also up u more after v) fixed =
    same clash stay leave answered requested spec imp status other text reported (Judged p lines d i are for climb s rest follows t) (Judged q others e j be also up u more after v) fixed (verdict_of lines) (verdict_of others) s u

pub reports_are_one : TextPairsAreIsomorphic → IsomorphicPairsHaveOneReport → ReportsAreOne
reports_are_one alike law requested spec imp p q lines others occurs also climb up fixed =
    law p q requested.options lines others (is_pair requested spec imp p occurs) (is_pair requested spec imp q also) (alike requested spec imp p q occurs also) climb up (λ depends. fixed (p, occurs, depends))

pub reports_begin_as_one : TextPairsAreIsomorphic → IsomorphicPairsHaveOneBeginning → ReportsBeginAsOne
reports_begin_as_one alike law requested spec imp p q lines others occurs also climb up =
    law p q requested.options lines others (is_pair requested spec imp p occurs) (is_pair requested spec imp q also) (alike requested spec imp p q occurs also) climb up
