-- Laws of the answers to two texts: what a status says of the texts, and that their answers agree.
use Rattle.std.specs.Prelude.{◌≡◌, ◌⊎◌, ℕ, true, false, List, ◌++◌}
use Rattle.std.specs.List.{AllZip}
use Rattle.bb_net.specs.Pairs.{NetPair}
use Rattle.bb_checks.specs.Laws.IsomorphicPairs.{AreReportedTheSame, AreReportedTheSameBefore}
use Rattle.bb_checks.specs.Laws.Searches.{MayDependOnSearch}
use Rattle.bb_checks.specs.declared.line.Line.{Line}
use Rattle.bb_checks.specs.Rungs.{IsClimb}
use Rattle.bb_verdict.specs.declared.requested.TextComparison.{TextComparison}
use Rattle.bb_frontend.specs.declared.refusal.Refusal.{Refusal}
use Rattle.bb_frontend.specs.RefusalLines.{refusal_line}
use Rattle.bb_verdict.specs.TextPairs.{IsPairRefusal, IsRefusal, ImplementsTexts, DoFit, AreRefuted, AreLeftOpen}
use Rattle.bb_verdict.specs.TextPairs.{AreStayingOpen, AreDecided, IsFinishedReport}
use Rattle.bb_verdict.specs.TextAnswers.{Judges}
use Rattle.bb_verdict.specs.OpenReports.{IsOpenReport}
use Rattle.bb_verdict.specs.ShownMistakes.{AreShown}

-- this holds of each answer to two texts
abbrev pub OfAnswers : (TextComparison → List ℕ → List ℕ → ℕ → List ℕ → Type 0) → Type 0
OfAnswers Claims = (requested : TextComparison) (spec imp : List ℕ) (status : ℕ) (text : List ℕ)
    → Judges requested spec imp status text → Claims requested spec imp status text

-- an answer that is no refusal is one to texts that fit
abbrev pub AnsweredFit : Type 0
AnsweredFit = OfAnswers (λ requested spec imp status text. (status ≡ 2 → ⊥) → DoFit requested spec imp)

-- an error is reported only where no contents make the two equivalent
abbrev pub ErrorsRefute : Type 0
ErrorsRefute = OfAnswers (λ requested spec imp status text. status ≡ 1 → AreRefuted requested spec imp)

-- and the report shows the errors that it names
abbrev pub ErrorsAreShown : Type 0
ErrorsAreShown = OfAnswers (λ requested spec imp status text. status ≡ 1 → AreShown requested spec imp text)

-- a design is finished only by a report that says so: by tables whose contents make the two equivalent and run alike,
-- and a filled implementation that does
abbrev pub RepairsFinish : Type 0
RepairsFinish = OfAnswers (λ requested spec imp status text. status ≡ 0 → IsFinishedReport requested spec imp text)

-- the filled implementation only adds to an answer: up to the verdict each is one without it, and each without it is a
-- prefix of one with it
pub record AddsOnly (requested : TextComparison) (spec imp : List ℕ) (status : ℕ) : Type 0 where
  pub prefix : (text : List ℕ) → Judges requested spec imp status text
      → (report : List ℕ) × (rest : List ℕ) × (text ≡ report ++ rest)
      × Judges (record requested { fill = false }) spec imp status report
  pub further : (report : List ℕ) → Judges (record requested { fill = false }) spec imp status report
      → (rest : List ℕ) × Judges (record requested { fill = true }) spec imp status (report ++ rest)

abbrev pub FillingOnlyAdds : Type 0
FillingOnlyAdds = (requested : TextComparison) (spec imp : List ℕ) (status : ℕ) → AddsOnly requested spec imp status

-- the question is left open only where each requested check leaves it open
abbrev pub OpenAnswersLeaveOpen : Type 0
OpenAnswersLeaveOpen = OfAnswers (λ requested spec imp status text. status ≡ 3 → AreLeftOpen requested spec imp)

-- and the report says so, check by check
abbrev pub OpenAnswersAreReports : Type 0
OpenAnswersAreReports = OfAnswers (λ requested spec imp status text. status ≡ 3 → IsOpenReport requested spec imp text)

-- where a check decides, the answer is an error or tables
abbrev pub DecidedAreAnswered : Type 0
DecidedAreAnswered = OfAnswers (λ requested spec imp status text. AreDecided requested spec imp
    → (status ≡ 0) ⊎ (status ≡ 1))

-- where the question stays open with each requested check, that is the answer
abbrev pub StayingOpenAreAnswered : Type 0
StayingOpenAreAnswered = OfAnswers (λ requested spec imp status text. AreStayingOpen requested spec imp → status ≡ 3)

-- status 2 reports the first refusal of the two texts
abbrev pub JudgedRefusalsAreFirst : Type 0
JudgedRefusalsAreFirst = OfAnswers (λ requested spec imp status text. status ≡ 2 → IsPairRefusal requested spec imp text)

-- where two texts have a refusal, its line is the only answer
abbrev pub RefusedAreAnsweredOnce : Type 0
RefusedAreAnsweredOnce = (requested : TextComparison) (spec imp : List ℕ) (refusal : Refusal) (status : ℕ) (text : List ℕ)
    → IsRefusal requested spec imp refusal → Judges requested spec imp status text
    → (status ≡ 2) × (text ≡ refusal_line refusal)

-- there is a pair of two texts of which the answer may depend on the search of the expansion
abbrev pub AnswersMayDependOnSearch : TextComparison → List ℕ → List ℕ → Type 0
AnswersMayDependOnSearch requested spec imp = (p : NetPair) × ImplementsTexts requested spec imp p
    × MayDependOnSearch p requested.options

-- two texts have one status, whichever pair is made of them, unless they are left open and the answer may depend on the
-- search
abbrev pub StatusesAreOne : Type 0
StatusesAreOne = (requested : TextComparison) (spec imp : List ℕ) (status other : ℕ) (text reported : List ℕ)
    → Judges requested spec imp status text → Judges requested spec imp other reported
    → (AreLeftOpen requested spec imp → AnswersMayDependOnSearch requested spec imp → ⊥) → status ≡ other

-- in any case no answer is that the design can be finished where another is that there is an error
abbrev pub StatusesNeverClash : Type 0
StatusesNeverClash = (requested : TextComparison) (spec imp : List ℕ) (status other : ℕ) (text reported : List ℕ)
    → Judges requested spec imp status text → Judges requested spec imp other reported
    → status ≡ 0 → other ≡ 1 → ⊥

-- they have one report, but for the details of the expansion, and but for what may depend on the search
abbrev pub ReportsAreOne : Type 0
ReportsAreOne = (requested : TextComparison) (spec imp : List ℕ) (p q : NetPair) (lines others : List Line)
    → ImplementsTexts requested spec imp p → ImplementsTexts requested spec imp q
    → IsClimb p requested.options lines → IsClimb q requested.options others → (AnswersMayDependOnSearch requested spec imp → ⊥)
    → AllZip (AreReportedTheSame p q requested.options) lines others

-- and in any case one up to the line of the expansion
abbrev pub ReportsBeginAsOne : Type 0
ReportsBeginAsOne = (requested : TextComparison) (spec imp : List ℕ) (p q : NetPair) (lines others : List Line)
    → ImplementsTexts requested spec imp p → ImplementsTexts requested spec imp q
    → IsClimb p requested.options lines → IsClimb q requested.options others
    → AllZip (AreReportedTheSameBefore p q requested.options) lines others
