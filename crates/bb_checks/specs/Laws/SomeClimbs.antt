-- A law of the reports of checks: a pair has one. Refutations that the expansion may need have to be short enough for a list in memory.
use Rattle.std.specs.Prelude.{List}
use Rattle.bb_expand.specs.Laws.{HaveShortRefutations}
use Rattle.bb_net.specs.Completions.{HaveSmallTables}
use Rattle.bb_net.specs.Kinds.{representatives}
use Rattle.bb_net.specs.Pairs.{NetPair, IsPair}
use Rattle.bb_options.specs.declared.options.Options.{Options}
use Rattle.bb_options.specs.Rungs.{AreBounds}
use Rattle.bb_checks.specs.declared.line.Line.{Line}
use Rattle.bb_checks.specs.Rungs.{IsClimb}

-- where its tables may be printed, the clauses over any distinguishing vectors of a pair, if they are within the budget
-- and have no model, have a refutation that is short enough
abbrev pub IsProvable : NetPair → Options → Type 0
IsProvable p o = HaveSmallTables (representatives p.kinds p.imp.boxes) → HaveShortRefutations p.spec p.imp p.kinds o.clauses

-- so each requested check has a possible result, and there are lines of all of them
abbrev pub ClimbsExist : Type 0
ClimbsExist = (p : NetPair) (o : Options) → IsPair p → AreBounds o → IsProvable p o → (lines : List Line) × IsClimb p o lines
