-- Results of checks do not depend on the order of cells: isomorphic pairs are left open together and decided together,
-- have the same possible results, but for refutations, and have the same reports, but for the details of the expansion,
-- and for its line where it may depend on the search. There too no two verdicts contradict each other.
use Rattle.std.specs.Prelude.{◌≡◌, List, map}
use Rattle.std.specs.List.{AllZip}
use Rattle.bb_iso.specs.Laws.Isomorphism.{AreIsomorphicPairs}
use Rattle.bb_net.specs.Pairs.{NetPair, IsPair}
use Rattle.bb_checks.specs.declared.line.Evidence.TheVariants.{Vector, NoChoices, Refutation}
use Rattle.bb_checks.specs.declared.line.Line.{Line}
use Rattle.bb_checks.specs.declared.line.CheckResult.{CheckResult}
use Rattle.bb_checks.specs.declared.line.CheckResult.TheVariants.{Error, Nothing, Repair, Nodes, Clauses, Wide}
use Rattle.bb_options.specs.declared.options.Options.{Options}
use Rattle.bb_options.specs.declared.rung.Rung.{Rung}
use Rattle.bb_options.specs.declared.rung.Rung.TheVariants.{Expand}
use Rattle.bb_checks.specs.declared.verdict.Verdict.TheVariants as verdicts
use Rattle.bb_checks.specs.LeftOpen.{MayLeaveOpen, MustLeaveOpen, Decides}
use Rattle.bb_checks.specs.Laws.Searches.{MayDependOnSearch}
use Rattle.bb_checks.specs.Reports.{rung_line, check_line_text, verdict_of}
use Rattle.bb_checks.specs.Rungs.{IsClimb, MayReport}

-- where a check leaves the question open for one pair, it does for an isomorphic one
abbrev pub IsomorphicPairsAreLeftOpen : Type 0
IsomorphicPairsAreLeftOpen = (p q : NetPair) (o : Options) (r : Rung) → IsPair p → IsPair q → AreIsomorphicPairs p q → MayLeaveOpen p o r → MayLeaveOpen q o r

-- where it stays open with the one, it does with the other
abbrev pub IsomorphicPairsStayOpen : Type 0
IsomorphicPairsStayOpen = (p q : NetPair) (o : Options) (r : Rung) → IsPair p → IsPair q → AreIsomorphicPairs p q → MustLeaveOpen p o r → MustLeaveOpen q o r

-- where the answer to one may depend on the search, that to the other may
abbrev pub IsomorphicPairsDependTheSame : Type 0
IsomorphicPairsDependTheSame = (p q : NetPair) (o : Options) → IsPair p → IsPair q → AreIsomorphicPairs p q → MayDependOnSearch p o → MayDependOnSearch q o

-- where it decides one, it decides the other
abbrev pub IsomorphicPairsAreDecided : Type 0
IsomorphicPairsAreDecided = (p q : NetPair) (o : Options) (r : Rung) → IsPair p → IsPair q → AreIsomorphicPairs p q → Decides p o r → Decides q o r

-- the details of the line are not a refutation
abbrev pub IsNoRefutation : CheckResult → Type 0
IsNoRefutation (Error (Vector found)) = Unit {0}
IsNoRefutation (Error NoChoices) = Unit {0}
IsNoRefutation (Error (Refutation proof)) = ⊥
IsNoRefutation Nothing = Unit {0}
IsNoRefutation (Repair tables) = Unit {0}
IsNoRefutation Nodes = Unit {0}
IsNoRefutation Clauses = Unit {0}
IsNoRefutation Wide = Unit {0}

-- a possible result for a pair is possible for an isomorphic one; a refutation is one of the clauses of one pair
abbrev pub IsomorphicPairsAreReported : Type 0
IsomorphicPairsAreReported = (p q : NetPair) (o : Options) (r : Rung) (check_result : CheckResult) → IsPair p → IsPair q → AreIsomorphicPairs p q → IsNoRefutation check_result → MayReport p o r check_result → MayReport q o r check_result

-- two lines of one check, with the same text unless it is the expansion
pub record AreReportedTheSameBefore (p q : NetPair) (o : Options) (l m : Line) : Type 0 where
  pub rung : l.rung ≡ m.rung
  pub text : (l.rung ≡ Expand → ⊥) → check_line_text p o l ≡ check_line_text q o m

-- and that of the expansion the same too, but for its details
pub record AreReportedTheSame (p q : NetPair) (o : Options) (l m : Line) : Type 0 where
  pub before : AreReportedTheSameBefore p q o l m
  pub line : rung_line l ≡ rung_line m

-- reports of isomorphic pairs are the same, but for the details of the expansion, its tables or its refutation, and for
-- what may depend on the search
abbrev pub IsomorphicPairsHaveOneReport : Type 0
IsomorphicPairsHaveOneReport = (p q : NetPair) (o : Options) (lines others : List Line) → IsPair p → IsPair q → AreIsomorphicPairs p q → IsClimb p o lines → IsClimb q o others
    → (MayDependOnSearch p o → ⊥) → AllZip (AreReportedTheSame p q o) lines others

-- so all their lists of results have the same lines, but for their details
abbrev pub IsomorphicClimbsReportTheSame : Type 0
IsomorphicClimbsReportTheSame = (p q : NetPair) (o : Options) (lines others : List Line) → IsPair p → IsPair q → AreIsomorphicPairs p q → IsClimb p o lines → IsClimb q o others
    → (MayDependOnSearch p o → ⊥) → map rung_line lines ≡ map rung_line others

-- in any case they have as many lines, and those before the line of the expansion are the same
abbrev pub IsomorphicPairsHaveOneBeginning : Type 0
IsomorphicPairsHaveOneBeginning = (p q : NetPair) (o : Options) (lines others : List Line) → IsPair p → IsPair q → AreIsomorphicPairs p q → IsClimb p o lines → IsClimb q o others
    → AllZip (AreReportedTheSameBefore p q o) lines others

-- and in any case no verdict is that there is an error where another is that the design can be finished
abbrev pub IsomorphicPairsNeverClash : Type 0
IsomorphicPairsNeverClash = (p q : NetPair) (o : Options) (lines others : List Line) → IsPair p → IsPair q → AreIsomorphicPairs p q → IsClimb p o lines → IsClimb q o others
    → verdict_of lines ≡ verdicts.Error → verdict_of others ≡ verdicts.Repairable → ⊥
