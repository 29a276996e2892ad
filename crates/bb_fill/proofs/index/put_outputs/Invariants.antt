use Rattle.bb_fill.proofs.Indexes.{HasOutputs}
use Rattle.bb_fill.proofs.index.put_outputs.Given as goal

abbrev pub invariant-loop-o : goal.invariant-loop-o
invariant-loop-o l = HasOutputs l.flat l.o l.texts.entries
