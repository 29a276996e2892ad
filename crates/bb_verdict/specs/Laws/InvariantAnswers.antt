-- Laws of answers to two texts, with and without an invariant: what each status means, and when it comes; that two
-- answers have one status; and that there is an answer.
use Rattle.std.specs.Prelude.{◌≡◌, ◌⊎◌, ℕ, List, Some}
use Rattle.bb_options.specs.Rungs.{AreBounds}
use Rattle.bb_verdict.specs.InvariantAnswers.{AnswersTexts, AreDecidedWith, AreLeftOpenWith, AreRefutedWith}
use Rattle.bb_verdict.specs.InvariantAnswers.{AreShownWith, IsBrokenReport, IsDoubted, IsFinishedWith, IsOpenReportWith}
use Rattle.bb_verdict.specs.InvariantAnswers.{IsRefusalLine, KeepsInvariant, invariant_name}
use Rattle.bb_verdict.specs.Laws.SomeAnswers.{AreProvable}
use Rattle.bb_verdict.specs.Laws.TextAnswers.{AnswersMayDependOnSearch}
use Rattle.bb_verdict.specs.declared.requested.TextComparison.{TextComparison}
use Rattle.bb_verdict.specs.TextPairs.{AreLeftOpen, AreStayingOpen, DoFit}

-- what an answer with this status says of the texts
pub record AnswerMeans (requested : TextComparison) (spec imp : List ℕ) (status : ℕ) (text : List ℕ) : Type 0 where
  pub fit : (status ≡ 2 → ⊥) → DoFit requested spec imp
  pub finished : status ≡ 0 → IsFinishedWith requested spec imp text
  pub refuted : status ≡ 1 → AreRefutedWith requested spec imp
  pub shown : status ≡ 1 → AreShownWith requested spec imp text
  pub refused : status ≡ 2 → IsRefusalLine requested spec imp text
  pub left_open : status ≡ 3 → AreLeftOpenWith requested spec imp
  pub open_report : status ≡ 3 → IsOpenReportWith requested spec imp text
  pub decided : AreDecidedWith requested spec imp → (status ≡ 0) ⊎ (status ≡ 1)
  pub stays_open : AreStayingOpen requested spec imp → status ≡ 3
  pub readable : status ≡ 4 → ⊥
  pub stays_refused : (line : List ℕ) → IsRefusalLine requested spec imp line → (status ≡ 2) × (text ≡ line)

abbrev pub AnswersToTextsAreMeant : Type 0
AnswersToTextsAreMeant = (requested : TextComparison) (spec imp : List ℕ) (status : ℕ) (text : List ℕ)
    → AnswersTexts requested spec imp status text → AnswerMeans requested spec imp status text

-- the texts fit, the invariant, where one is requested, is kept, and the checks need not leave the question open; but it
-- is in doubt whether the invariant is kept, or the checks may leave the question open, depending on the search
pub record StatusesMayDiffer (requested : TextComparison) (spec imp : List ℕ) : Type 0 where
  pub fit : DoFit requested spec imp
  pub kept : KeepsInvariant requested spec
  pub not_open : AreStayingOpen requested spec imp → ⊥
  pub unsure : IsDoubted requested spec ⊎ (AreLeftOpen requested spec imp × AnswersMayDependOnSearch requested spec imp)

-- unless this is so two texts have one status, whichever netlists are made of them
abbrev pub AnswersHaveOneStatus : Type 0
AnswersHaveOneStatus = (requested : TextComparison) (spec imp : List ℕ) (status other : ℕ) (text reported : List ℕ)
    → AnswersTexts requested spec imp status text → AnswersTexts requested spec imp other reported
    → (StatusesMayDiffer requested spec imp → ⊥) → status ≡ other

-- in any case no answer is that the design can be finished where another is that there is an error
abbrev pub AnswersNeverClash : Type 0
AnswersNeverClash = (requested : TextComparison) (spec imp : List ℕ) (status other : ℕ) (text reported : List ℕ)
    → AnswersTexts requested spec imp status text → AnswersTexts requested spec imp other reported
    → status ≡ 0 → other ≡ 1 → ⊥

-- where an event breaks the invariant that is requested, texts that fit are left open, whatever the checks would find
abbrev pub BrokenAreLeftOpen : Type 0
BrokenAreLeftOpen = (requested : TextComparison) (name spec imp shown : List ℕ) (status : ℕ) (text : List ℕ)
    → invariant_name requested ≡ Some name → IsBrokenReport requested spec name shown → DoFit requested spec imp
    → AnswersTexts requested spec imp status text → status ≡ 3

-- any two texts have a status and a report
abbrev pub TextsAreAnswered : Type 0
TextsAreAnswered = (requested : TextComparison) (spec imp : List ℕ) → AreBounds requested.options
    → AreProvable requested spec imp → (status : ℕ) × (text : List ℕ) × AnswersTexts requested spec imp status text
