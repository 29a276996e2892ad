use Rattle.std.proofs.Common.{take}
use Rattle.bb_nest.specs.Inside.Readers.{AreReaders}
use Rattle.bb_nest.proofs.seeing.readers.Given as goal

abbrev pub invariant-loop-r : goal.invariant-loop-r
invariant-loop-r l = AreReaders l.ins (take l.r-index l.refs) l.readers.items
