use Rattle.std.proofs.Common.{All, take}
use Rattle.bb_rup.specs.Propagation.{IsOpen}
use Rattle.bb_rup.specs.Inside.Trails.{marked}
use Rattle.bb_rup.proofs.scan.scan.Given as goal

abbrev pub invariant-loop-number : goal.invariant-loop-number
invariant-loop-number l = All (IsOpen (marked l.marks)) (take l.number l.clauses)
