-- The filled implementation, which comes after the verdict where it is requested and the design can be finished: the
-- flat netlist of the implementation, one from which the pair is made, as one module in which each box holds the table
-- of its sharing class. Where it cannot be printed, a line says why: a name would mean two nets, or the text would be
-- too large. The text reads as a design without a box that is equivalent to the specification.
use Rattle.std.specs.Prelude.{◌≡◌, ◌⊎◌, ℕ, Bool, true, false, List, [], ◌++◌, Contains, Option, None, Some, codes}
use Rattle.bb_bits.specs.Contents.{Contents}
use Rattle.bb_bits.specs.Tables.{TableBits}
use Rattle.bb_equiv.specs.Comparable.{AreComparable}
use Rattle.bb_equiv.specs.DesignEquivalence.{AreEquivalentEverywhere, ContentsMakeEquivalent}
use Rattle.bb_design.specs.Hierarchy.{Design, boxes}
use Rattle.bb_design.specs.Refusals.{input_texts, output_texts, register_texts}
use Rattle.bb_fill.specs.Answers.{Answer, Clash, TooLarge, Text, IsFillAnswer}
use Rattle.bb_names.specs.Faults.{IsSound}
use Rattle.bb_net.specs.Flats.{FlatNet, IsFlat}
use Rattle.bb_net.specs.Kinds.{per_box}
use Rattle.bb_checks.specs.declared.line.Line.{Line}
use Rattle.bb_checks.specs.declared.verdict.Verdict.TheVariants as verdicts
use Rattle.bb_checks.specs.Reports.{GivesTables, verdict_of}
use Rattle.bb_frontend.specs.TextDesigns.{IsReadAs}
use Rattle.bb_verdict.specs.FilledSizes.{IsTooLargeToFill}
use Rattle.bb_verdict.specs.OwnTexts.{HasOwnTexts}

-- what is written when a netlist is to be filled
abbrev pub answer_text : Answer → List ℕ
answer_text (Clash name) = codes "fill clash " ++ name ++ codes "\n"
answer_text TooLarge = codes "fill toolarge\n"
answer_text (Text text) = codes "fill\n" ++ text

-- what comes after the verdict of these checks: nothing, unless the filled implementation is requested and the design
-- can be finished; else the answer for the tables that a check gives
pub data MayFollowVerdict (fill : Bool) (f : FlatNet) (kinds : List ℕ) (lines : List Line) (rest : List ℕ) : Type 0 where
  NotRequested : fill ≡ false → rest ≡ [] → MayFollowVerdict fill f kinds lines rest
  NotFinished : (verdict_of lines ≡ verdicts.Repairable → ⊥) → rest ≡ [] → MayFollowVerdict fill f kinds lines rest
  Follows : fill ≡ true → verdict_of lines ≡ verdicts.Repairable → (tables : List TableBits) → GivesTables lines tables
      → (answer : Answer) → IsFillAnswer f (per_box kinds tables) answer → rest ≡ answer_text answer
      → MayFollowVerdict fill f kinds lines rest

-- a line begins after this text: the first one, or another after the end of a line
abbrev pub BeginsLine : List ℕ → Type 0
BeginsLine before = (before ≡ []) ⊎ ((prefix : List ℕ) × (before ≡ prefix ++ codes "\n"))

-- no line of a text begins with these bytes
abbrev pub HasNoLine : List ℕ → List ℕ → Type 0
HasNoLine begin text = (before after : List ℕ) → text ≡ before ++ begin ++ after → BeginsLine before → ⊥

-- the law of it: after the verdict no line begins as that of a table, so the tables of a report are those before it
abbrev pub NoTablesFollow : Type 0
NoTablesFollow = (fill : Bool) (f : FlatNet) (kinds : List ℕ) (lines : List Line) (rest : List ℕ) → IsFlat f
    → MayFollowVerdict fill f kinds lines rest → HasNoLine (codes "table") rest

-- a text finishes the design of an implementation, in whose boxes there may be certain contents. Under its one module
-- as top, named or not, it reads as a design that breaks no rule on names, whose texts are apart, that has no box and
-- can be compared with the specification. Where equivalence is requested it is equivalent to the specification,
-- whatever contents boxes would have; and everywhere its outputs and next states are those of the implementation with
-- such contents
pub record IsFinishedText (care : Option (List ℕ)) (s i : Design) (Fills : Contents → Type 0)
    (filled : List ℕ) : Type 0 where
  pub d : Design
  pub reads : IsReadAs None filled d
  pub reads_by_name : IsReadAs (Some (codes "filled")) filled d
  pub sound : IsSound d.text
  pub own : HasOwnTexts d
  pub complete : boxes d ≡ []
  pub comparable : AreComparable care s d
  pub agree : (contents : Contents) → ContentsMakeEquivalent care s d contents
  pub same : (contents : Contents) → Fills contents → AreEquivalentEverywhere None d i contents

-- two nets of one module would have this name: an input has the text of a register or of an output, or an output that
-- of a register
abbrev pub IsTwice : Design → List ℕ → Type 0
IsTwice i name = (Contains (input_texts i) name × (Contains (register_texts i) name ⊎ Contains (output_texts i) name))
    ⊎ (Contains (output_texts i) name × Contains (register_texts i) name)

-- what comes after the verdict of an implementation: a text of which this holds, or why there is none; that the text
-- would be too large is said only of an implementation with so many nets, or such long names, that it may be
pub data FollowsVerdict (i : Design) (Claims : List ℕ → Type 0) (rest : List ℕ) : Type 0 where
  Finished : (filled : List ℕ) → rest ≡ codes "fill\n" ++ filled → Claims filled → FollowsVerdict i Claims rest
  Clashes : (name : List ℕ) → rest ≡ codes "fill clash " ++ name ++ codes "\n" → IsTwice i name
      → FollowsVerdict i Claims rest
  IsLarge : rest ≡ codes "fill toolarge\n" → IsTooLargeToFill i → FollowsVerdict i Claims rest
