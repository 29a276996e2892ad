use Rattle.std.proofs.Common.{take, All}
use Rattle.bb_nest.specs.Inside.Readers.{HasReader}
use Rattle.bb_nest.proofs.seeing.sees_all.Given as goal

abbrev pub invariant-loop-r : goal.invariant-loop-r
invariant-loop-r l = All (HasReader l.ins) (take l.r-index l.refs)
