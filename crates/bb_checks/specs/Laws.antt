-- Laws of the results of checks.
pub mod IsomorphicPairs
pub mod Searches
pub mod ShownVectors
pub mod SomeClimbs
use Rattle.std.specs.Prelude.{map, ◌≡◌, true, false, List, ◌∷◌, ◌++◌, All, ℕ, Bool}
use Rattle.std.specs.List.{list_any}
use Rattle.bb_bits.specs.Tables.{TableBits}
use Rattle.bb_net.specs.Kinds.{AreSharedCompletion, NoSharedTablesMakeEquivalent, representatives}
use Rattle.bb_net.specs.Pairs.{NetPair, IsPair}
use Rattle.bb_net.specs.Values.{FitBoxes}
use Rattle.bb_checks.specs.declared.line.Line.{Line}
use Rattle.bb_checks.specs.declared.line.CheckResult.TheVariants.{Nothing}
use Rattle.bb_options.specs.declared.options.Options.{Options}
use Rattle.bb_checks.specs.declared.verdict.Verdict.TheVariants as verdicts
use Rattle.bb_options.specs.declared.rung.Rung.{Rung}
use Rattle.bb_checks.specs.LeftOpen.{AllMayLeaveOpen, AllMustLeaveOpen, MayLeaveOpen, SomeDecides, MustLeaveOpen}
use Rattle.bb_checks.specs.Laws.Searches.{MayDependOnSearch}
use Rattle.bb_checks.specs.Reports.{EndsWithTables, GivesTables, report_text, rung_line, verdict_of}
use Rattle.bb_checks.specs.Rungs.{IsClimb, ResultCanBeReported, is_error, is_repair}
use Rattle.bb_checks.specs.TableLines.{table_lines}

-- where a check reports an error, no tables, one for each sharing class, make the designs equivalent
abbrev pub ErrorsExcludeTables : Type 0
ErrorsExcludeTables = (p : NetPair) (o : Options) (lines : List Line) → IsPair p → IsClimb p o lines → list_any is_error lines ≡ true → NoSharedTablesMakeEquivalent p.spec p.imp p.kinds

-- where the verdict is that the design can be finished, a check gives tables that make the designs equivalent, and the
-- report ends with these
abbrev pub RepairsMakeEquivalent : Type 0
RepairsMakeEquivalent = (p : NetPair) (o : Options) (lines : List Line) → IsPair p → IsClimb p o lines → verdict_of lines ≡ verdicts.Repairable
    → (tables : List TableBits) × GivesTables lines tables × AreSharedCompletion p.spec p.imp p.kinds tables × EndsWithTables o.shared (representatives p.kinds p.boxes) (report_text p o lines) tables

-- whatever tables a check gives, they make the designs equivalent
abbrev pub GivenTablesMakeEquivalent : Type 0
GivenTablesMakeEquivalent = (p : NetPair) (o : Options) (lines : List Line) (tables : List TableBits) → IsPair p → IsClimb p o lines → GivesTables lines tables → AreSharedCompletion p.spec p.imp p.kinds tables

-- and no two checks give other tables, since the checks end where one gives some
abbrev pub TablesAreGivenOnce : Type 0
TablesAreGivenOnce = (p : NetPair) (o : Options) (lines : List Line) (tables others : List TableBits) → IsClimb p o lines → GivesTables lines tables → GivesTables lines others → tables ≡ others

-- the lines of a table give back its bits: tables of the same sharing classes with the same lines are the same
abbrev pub LinesFixTables : Type 0
LinesFixTables = (shared : Bool) (p : NetPair) (tables others : List TableBits) → IsPair p → FitBoxes tables (representatives p.kinds p.imp.boxes) → FitBoxes others (representatives p.kinds p.imp.boxes)
    → table_lines shared (representatives p.kinds p.boxes) tables ≡ table_lines shared (representatives p.kinds p.boxes) others → tables ≡ others

-- so a report ends with the lines of one list of tables
abbrev pub TextsFixTables : Type 0
TextsFixTables = (shared : Bool) (p : NetPair) (text : List ℕ) (tables others : List TableBits) → IsPair p → FitBoxes tables (representatives p.kinds p.imp.boxes) → FitBoxes others (representatives p.kinds p.imp.boxes)
    → EndsWithTables shared (representatives p.kinds p.boxes) text tables → EndsWithTables shared (representatives p.kinds p.boxes) text others → tables ≡ others

-- what checks find can be reported by the names of the pair
abbrev pub ClimbsAreReported : Type 0
ClimbsAreReported = (p : NetPair) (o : Options) (lines : List Line) → IsPair p → IsClimb p o lines → All (λ line. ResultCanBeReported p line.check_result) lines

-- where none reports an error, and none gives tables, each leaves the question open
abbrev pub ClimbsLeaveOpen : Type 0
ClimbsLeaveOpen = (p : NetPair) (o : Options) (lines : List Line) → IsClimb p o lines → verdict_of lines ≡ verdicts.Open → AllMayLeaveOpen p o

-- and where the question stays open with each requested check, that is the verdict
abbrev pub StayingOpenIsReported : Type 0
StayingOpenIsReported = (p : NetPair) (o : Options) (lines : List Line) → IsClimb p o lines → AllMustLeaveOpen p o → verdict_of lines ≡ verdicts.Open

-- a check with which the question stays open leaves it open
abbrev pub StayingOpenIsLeftOpen : Type 0
StayingOpenIsLeftOpen = (p : NetPair) (o : Options) (r : Rung) → MustLeaveOpen p o r → MayLeaveOpen p o r

-- and but for what may depend on the search, what is left open stays open
abbrev pub LeftOpenStaysOpen : Type 0
LeftOpenStaysOpen = (p : NetPair) (o : Options) → (MayDependOnSearch p o → ⊥) → AllMayLeaveOpen p o → AllMustLeaveOpen p o

-- where a requested check decides, the question is not left open
abbrev pub DecidersDecide : Type 0
DecidersDecide = (p : NetPair) (o : Options) (lines : List Line) → IsClimb p o lines → SomeDecides p o → verdict_of lines ≡ verdicts.Open → ⊥

-- after an error no check reports that it found none, and none gives tables
abbrev pub ErrorsStay : Type 0
ErrorsStay = (p : NetPair) (o : Options) (before after : List Line) (line : Line) → IsPair p → IsClimb p o (before ++ line ∷ after) → is_error line ≡ true
    → All (λ later. (later.check_result ≡ Nothing → ⊥) × (is_repair later ≡ false)) after

-- all lists of results of a pair have the same lines, but for their details and what may depend on the search
abbrev pub ClimbsReportTheSame : Type 0
ClimbsReportTheSame = (p : NetPair) (o : Options) (lines others : List Line) → IsPair p → IsClimb p o lines → IsClimb p o others → (MayDependOnSearch p o → ⊥)
    → map rung_line lines ≡ map rung_line others
