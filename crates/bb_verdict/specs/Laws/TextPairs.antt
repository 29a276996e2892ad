-- Laws of two texts: their pairs are one but for the order of cells, and no two texts have a pair and a refusal, or are
-- both finished and refuted.
use Rattle.std.specs.Prelude.{◌≡◌, ℕ, List, Option}
use Rattle.bb_iso.specs.Laws.Isomorphism.{AreIsomorphicPairs}
use Rattle.bb_bits.specs.Contents.{Contents}
use Rattle.bb_bits.specs.Tables.{TableBits}
use Rattle.bb_design.specs.Hierarchy.{Design}
use Rattle.bb_design.specs.Inside.Allowed.{IsAllowed}
use Rattle.bb_design.specs.Worlds.{FitDesign}
use Rattle.bb_equiv.specs.DesignEquivalence.{AreSpelled, IsPairFor, MayFill, NoContentsMakeEquivalent}
use Rattle.bb_equiv.specs.DesignFit.{DesignsFit}
use Rattle.bb_equiv.specs.Laws.Mistakes.{AllHaveCounterexamples}
use Rattle.bb_equiv.specs.Laws.Runs.{EventShows}
use Rattle.bb_fill.specs.Answers.{Text, TooLarge, IsFillAnswer as MayPrint}
use Rattle.bb_net.specs.Kinds.{AreSharedCompletion, per_box}
use Rattle.bb_net.specs.Pairs.{NetPair}
use Rattle.bb_verdict.specs.FilledSizes.{IsTooLargeToFill}
use Rattle.bb_verdict.specs.FilledTexts.{IsFinishedText}
use Rattle.bb_verdict.specs.declared.requested.TextComparison.{TextComparison}
use Rattle.bb_frontend.specs.declared.refusal.Refusal.{Refusal}
use Rattle.bb_frontend.specs.TextDesigns.{IsDesignOf}
use Rattle.bb_verdict.specs.TextPairs.{AreDesignsOf, IsRefusal, ImplementsTexts, DoFit, AreRefuted, AreFinished, Passes}
use Rattle.bb_verdict.specs.TextPairs.{RunsAsText}

-- the design of a text is one of which the laws of designs speak
abbrev pub DesignsAreAllowed : Type 0
DesignsAreAllowed = (name : Option (List ℕ)) (text : List ℕ) (d : Design) → IsDesignOf name text d → IsAllowed d

-- two texts have at most one first refusal
abbrev pub RefusalsAreOne : Type 0
RefusalsAreOne = (requested : TextComparison) (spec imp : List ℕ) (e f : Refusal) → IsRefusal requested spec imp e
    → IsRefusal requested spec imp f → e ≡ f

-- and no pair where they have one
abbrev pub NotPairAndRefusal : Type 0
NotPairAndRefusal = (requested : TextComparison) (spec imp : List ℕ) (p : NetPair) (refusal : Refusal)
    → ImplementsTexts requested spec imp p → IsRefusal requested spec imp refusal → ⊥

-- what fits and is refuted is so by one pair of designs
abbrev pub FittingAreRefutedByDesigns : Type 0
FittingAreRefutedByDesigns = (requested : TextComparison) (spec imp : List ℕ) → DoFit requested spec imp → AreRefuted requested spec imp
    → (s i : Design) × AreDesignsOf requested spec imp s i × DesignsFit requested.care s i
    × NoContentsMakeEquivalent requested.care requested.options.shared s i

-- of what is refuted, there is a counterexample to each contents that may fill the boxes
abbrev pub RefutedHaveCounterexamples : Type 0
RefutedHaveCounterexamples = (requested : TextComparison) (spec imp : List ℕ) (refuted : AreRefuted requested spec imp)
    → AllHaveCounterexamples requested.care requested.options.shared refuted.s refuted.i

-- and where the two fit, to each contents that may fill the boxes there is an event that shows of their designs that
-- they differ
abbrev pub RefutedAreSeen : Type 0
RefutedAreSeen = (requested : TextComparison) (spec imp : List ℕ) → DoFit requested spec imp → AreRefuted requested spec imp
    → (s i : Design) × AreDesignsOf requested spec imp s i × ((contents : Contents)
    → MayFill requested.options.shared i contents → EventShows requested.care s i contents)

-- two calls have the same options, but for which checks run and within which bounds
pub record RequestTheSamePair (requested other : TextComparison) : Type 0 where
  pub spec_top : other.spec_top ≡ requested.spec_top
  pub imp_top : other.imp_top ≡ requested.imp_top
  pub care : other.care ≡ requested.care
  pub shared : other.options.shared ≡ requested.options.shared

-- no two texts are both finished and refuted, whatever the bounds of the two calls
abbrev pub NotFinishedAndRefuted : Type 0
NotFinishedAndRefuted = (requested other : TextComparison) (spec imp text : List ℕ) → RequestTheSamePair requested other
    → AreFinished requested spec imp text
    → AreRefuted other spec imp → ⊥

-- the text of a netlist of the implementation from which a pair is made, filled with tables that make the two
-- equivalent, finishes the design, passes and runs
abbrev pub FilledTextsFinish : Type 0
FilledTextsFinish = (requested : TextComparison) (spec imp : List ℕ) (s i : Design) → AreDesignsOf requested spec imp s i
    → (p : NetPair) (pair : IsPairFor requested.care requested.options.shared s i p) (tables : List TableBits)
    → AreSharedCompletion p.spec p.imp p.kinds tables → (text : List ℕ)
    → MayPrint pair.imp_net (per_box p.kinds tables) (Text text)
    → IsFinishedText requested.care s i (λ contents. FitDesign i contents × AreSpelled p.boxes p.kinds tables contents) text
    × Passes requested spec text × RunsAsText requested.care s text

-- and where such a text is too large to be printed, the implementation is too large to be filled
abbrev pub LargeTextsAreOfLargeDesigns : Type 0
LargeTextsAreOfLargeDesigns = (requested : TextComparison) (spec imp : List ℕ) (s i : Design)
    → AreDesignsOf requested spec imp s i
    → (p : NetPair) (pair : IsPairFor requested.care requested.options.shared s i p) (tables : List TableBits)
    → AreSharedCompletion p.spec p.imp p.kinds tables
    → MayPrint pair.imp_net (per_box p.kinds tables) TooLarge → IsTooLargeToFill i

-- pairs of two texts are isomorphic
abbrev pub TextPairsAreIsomorphic : Type 0
TextPairsAreIsomorphic = (requested : TextComparison) (spec imp : List ℕ) (p q : NetPair) → ImplementsTexts requested spec imp p
    → ImplementsTexts requested spec imp q → AreIsomorphicPairs p q
