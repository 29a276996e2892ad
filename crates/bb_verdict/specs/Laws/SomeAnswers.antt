-- A law of what may be answered to two texts: there is an answer. Refutations that the expansion may need have to be
-- short enough for a list in memory.
use Rattle.std.specs.Prelude.{ℕ, List}
use Rattle.bb_net.specs.Pairs.{NetPair}
use Rattle.bb_options.specs.Rungs.{AreBounds}
use Rattle.bb_checks.specs.Laws.SomeClimbs.{IsProvable}
use Rattle.bb_verdict.specs.declared.requested.TextComparison.{TextComparison}
use Rattle.bb_verdict.specs.TextAnswers.{Judges}
use Rattle.bb_verdict.specs.TextPairs.{ImplementsTexts}

-- refutations that a pair of the two texts may need are short enough
abbrev pub AreProvable : TextComparison → List ℕ → List ℕ → Type 0
AreProvable requested spec imp = (p : NetPair) → ImplementsTexts requested spec imp p → IsProvable p requested.options

-- so any two texts have a status and a report
abbrev pub TextsAreJudged : Type 0
TextsAreJudged = (requested : TextComparison) (spec imp : List ℕ) → AreBounds requested.options → AreProvable requested spec imp
    → (status : ℕ) × (text : List ℕ) × Judges requested spec imp status text
