-- Two texts, that of a specification and that of an implementation with boxes, under the options of a comparison: their
-- designs, or the first thing for which they are refused; the pair that is made of them; and whether contents of the
-- boxes make them equivalent. Faults of the specification come before those of the implementation, and these before
-- those of the two as a pair.
use Rattle.std.specs.Prelude.{◌≡◌, ℕ, false, true, List, [], ◌++◌, map, None, Option, Some, codes, IsPermutation}
use Rattle.std.specs.List.{AllZip}
use Rattle.bb_bits.specs.Contents.{Contents}
use Rattle.bb_bits.specs.Tables.{TableBits}
use Rattle.bb_implements.specs.Implements.{box_texts}
use Rattle.bb_design.specs.Hierarchy.{Design, Scope, boxes}
use Rattle.bb_design.specs.Worlds.{FitDesign}
use Rattle.bb_equiv.specs.Comparable.{AreComparable}
use Rattle.bb_equiv.specs.DesignEquivalence.{AreSpelled, ContentsMakeEquivalent, IsPairFor, IsTableOf, MayFill, NoContentsMakeEquivalent}
use Rattle.bb_equiv.specs.DesignFit.{DesignsFit, IsRefusalFor}
use Rattle.bb_equiv.specs.Runs.{RunTheSame}
use Rattle.bb_names.specs.Faults.{IsSound}
use Rattle.bb_net.specs.Kinds.{AreKinds, representatives}
use Rattle.bb_net.specs.Pairs.{NetPair, box_key}
use Rattle.bb_checks.specs.LeftOpen.{AllMayLeaveOpen, AllMustLeaveOpen, SomeDecides}
use Rattle.bb_checks.specs.Reports.{EndsWithTables}
use Rattle.bb_verdict.specs.FilledTexts.{FollowsVerdict, HasNoLine, IsFinishedText}
use Rattle.bb_verdict.specs.OwnTexts.{HasOwnTexts}
use Rattle.bb_verdict.specs.declared.requested.TextComparison.{TextComparison}
use Rattle.bb_frontend.specs.declared.refusal.Refusal.{Refusal}
use Rattle.bb_frontend.specs.RefusalLines.{refusal_line}
use Rattle.bb_frontend.specs.declared.refusal.Refusal.TheVariants.{Spec, Imp, Pair, NoMemory}
use Rattle.bb_frontend.specs.TextDesigns.{IsDesignOf, IsReadAs, IsSideFault}

-- they are the designs of the two texts
pub record AreDesignsOf (requested : TextComparison) (spec imp : List ℕ) (s i : Design) : Type 0 where
  pub spec_design : IsDesignOf requested.spec_top spec s
  pub imp_design : IsDesignOf requested.imp_top imp i

-- it is the first refusal of the two texts
abbrev pub IsRefusal : TextComparison → List ℕ → List ℕ → Refusal → Type 0
IsRefusal requested spec imp (Spec fault) = IsSideFault requested.spec_top spec fault
IsRefusal requested spec imp (Imp fault) = (s : Design) × IsDesignOf requested.spec_top spec s
    × IsSideFault requested.imp_top imp fault
IsRefusal requested spec imp (Pair fault) = (s i : Design) × AreDesignsOf requested spec imp s i
    × IsRefusalFor requested.care s i fault
IsRefusal requested spec imp NoMemory = ⊥

-- it is the line of that
abbrev pub IsPairRefusal : TextComparison → List ℕ → List ℕ → List ℕ → Type 0
IsPairRefusal requested spec imp line = (refusal : Refusal) × IsRefusal requested spec imp refusal
    × (line ≡ refusal_line refusal)

-- the pair is one of the two texts: it is one of their designs
abbrev pub ImplementsTexts : TextComparison → List ℕ → List ℕ → NetPair → Type 0
ImplementsTexts requested spec imp p = (s i : Design) × AreDesignsOf requested spec imp s i
    × IsPairFor requested.care requested.options.shared s i p

-- they have designs, in which nothing is at fault, and these fit
abbrev pub DoFit : TextComparison → List ℕ → List ℕ → Type 0
DoFit requested spec imp = (s i : Design) × AreDesignsOf requested spec imp s i × DesignsFit requested.care s i

-- they read as these designs under their tops, break no rule on names, ranges, widths and roles, and no text that
-- reports use names two things in them
pub record AreReadAs (requested : TextComparison) (spec imp : List ℕ) (s i : Design) : Type 0 where
  pub spec_reads : IsReadAs requested.spec_top spec s
  pub imp_reads : IsReadAs requested.imp_top imp i
  pub spec_sound : IsSound s.text
  pub imp_sound : IsSound i.text
  pub spec_own : HasOwnTexts s
  pub imp_own : HasOwnTexts i

-- they read as designs that can be compared, some contents may fill the boxes, and none that may make the two
-- equivalent where that is requested: everywhere or, with a care output, where this is 1
pub record AreRefuted (requested : TextComparison) (spec imp : List ℕ) : Type 0 where
  pub s : Design
  pub i : Design
  pub reads : AreReadAs requested spec imp s i
  pub comparable : AreComparable requested.care s i
  pub some : (contents : Contents) × MayFill requested.options.shared i contents
  pub none : NoContentsMakeEquivalent requested.care requested.options.shared s i

-- there is a pair of the two, and for each such pair each requested check leaves the question open
pub record AreLeftOpen (requested : TextComparison) (spec imp : List ℕ) : Type 0 where
  pub pair : (p : NetPair) × ImplementsTexts requested spec imp p
  pub left : (p : NetPair) → ImplementsTexts requested spec imp p → AllMayLeaveOpen p requested.options

-- they read as designs that can be compared, and the text has lines of tables, the last before its verdict, that spell
-- contents of the boxes. Each box has the table of its sharing class: its own or, where boxes of one module share their
-- contents, that of its module. There are such contents that may fill the boxes, and with all that fit these and that
-- the tables spell the two are equivalent where that is requested. After the verdict no line is that of a table, and
-- nothing comes there unless the filled implementation is requested
pub record AreFinished (requested : TextComparison) (spec imp text : List ℕ) : Type 0 where
  pub s : Design
  pub i : Design
  pub reads : AreReadAs requested spec imp s i
  pub comparable : AreComparable requested.care s i
  pub order : List Scope
  pub all : IsPermutation order (boxes i)
  pub kinds : List ℕ
  pub keyed : AreKinds (map (box_key requested.options.shared) (map (box_texts i) order)) kinds
  pub tables : List TableBits
  pub shapes : AllZip IsTableOf (representatives kinds (map (box_texts i) order)) tables
  pub report : List ℕ
  pub rest : List ℕ
  pub whole : text ≡ report ++ rest
  pub lines : EndsWithTables requested.options.shared (representatives kinds (map (box_texts i) order)) report tables
  pub no_more : HasNoLine (codes "table") rest
  pub alone : requested.fill ≡ false → rest ≡ []
  pub contents : (contents : Contents) × MayFill requested.options.shared i contents
      × AreSpelled (map (box_texts i) order) kinds tables contents
  pub agree : (contents : Contents) → FitDesign i contents → AreSpelled (map (box_texts i) order) kinds tables contents
      → ContentsMakeEquivalent requested.care s i contents

-- contents that fit the boxes and that the tables spell
abbrev pub AreSpelledBy : {requested : TextComparison} {spec imp text : List ℕ} → AreFinished requested spec imp text → Contents → Type 0
AreSpelledBy finished contents = FitDesign finished.i contents
    × AreSpelled (map (box_texts finished.i) finished.order) finished.kinds finished.tables contents

-- the filled text passes as an implementation: nothing is at fault in it and it fits the specification, whether its top
-- is named or not
abbrev pub Passes : TextComparison → List ℕ → List ℕ → Type 0
Passes requested spec filled = DoFit (record requested { imp_top = None }) spec filled
    × DoFit (record requested { imp_top = Some (codes "filled") }) spec filled

-- the text reads as a design that runs as the specification does, by texts that each have one meaning
abbrev pub RunsAsText : Option (List ℕ) → Design → List ℕ → Type 0
RunsAsText care s filled = (d : Design) × IsReadAs None filled d × HasOwnTexts d
    × ((contents : Contents) → RunTheSame care s d contents)

-- the text is the implementation with its boxes filled so: it is equivalent to the specification, passes, and runs as
-- that does
pub record IsFilledText {requested : TextComparison} {spec imp text : List ℕ} (finished : AreFinished requested spec imp text)
    (filled : List ℕ) : Type 0 where
  pub finishes : IsFinishedText requested.care finished.s finished.i (AreSpelledBy finished) filled
  pub passes : Passes requested spec filled
  pub runs : RunsAsText requested.care finished.s filled

-- all that a report says by which the two are finished. It is one record, since a text with two lines of the verdict
-- can be split in two ways, and conditions of their own would each speak of some split. With all contents that the
-- tables spell the two run alike, whatever events come, and where it is requested, after the verdict comes the filled
-- implementation, or why it does not
pub record IsFinishedReport (requested : TextComparison) (spec imp text : List ℕ) : Type 0 where
  pub finished : AreFinished requested spec imp text
  pub runs : (contents : Contents) → AreSpelledBy finished contents → RunTheSame requested.care finished.s finished.i contents
  pub filled : requested.fill ≡ true → FollowsVerdict finished.i (IsFilledText finished) finished.rest

-- there is a pair of the two for which a requested check decides
abbrev pub AreDecided : TextComparison → List ℕ → List ℕ → Type 0
AreDecided requested spec imp = (p : NetPair) × ImplementsTexts requested spec imp p × SomeDecides p requested.options

-- there is a pair of the two for which the question stays open with each requested check
abbrev pub AreStayingOpen : TextComparison → List ℕ → List ℕ → Type 0
AreStayingOpen requested spec imp = (p : NetPair) × ImplementsTexts requested spec imp p × AllMustLeaveOpen p requested.options
