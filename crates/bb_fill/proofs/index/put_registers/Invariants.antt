use Rattle.bb_fill.specs.Inside.Indexes.{IsIndexUpTo}
use Rattle.bb_fill.proofs.index.put_registers.Given as goal

abbrev pub invariant-loop-r : goal.invariant-loop-r
invariant-loop-r l = IsIndexUpTo l.flat l.r l.texts.entries
