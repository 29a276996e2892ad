use Rattle.std.proofs.Common.{take}
use Rattle.bb_rup.specs.Inside.Trails.{marked}
use Rattle.bb_rup.specs.Inside.Statuses.{IsSoFar}
use Rattle.bb_rup.proofs.examination.examine.Given as goal

abbrev pub invariant-loop-lit : goal.invariant-loop-lit
invariant-loop-lit l = IsSoFar (marked l.marks) (take l.lit-index l.clause) l.free
