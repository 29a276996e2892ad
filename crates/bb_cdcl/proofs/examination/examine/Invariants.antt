use Rattle.std.proofs.Common.{take}
use Rattle.bb_cdcl.specs.Inside.Events.{IsSoFar}
use Rattle.bb_cdcl.proofs.examination.examine.Given as goal

abbrev pub invariant-loop-lit : goal.invariant-loop-lit
invariant-loop-lit l = IsSoFar l.values (take l.lit-index l.clause) l.free
