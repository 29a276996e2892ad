use Rattle.std.proofs.Common.{length}
use Rattle.bb_outside.proofs.Written.{IsWritten}
use Rattle.bb_outside.proofs.sink.put_all.Given as goal

abbrev pub invariant-loop-rest : goal.invariant-loop-rest
invariant-loop-rest g l =
    IsWritten (g.K.Sink.written l.initial.out) (g.K.Sink.written l.out) (g.K.Sink.faults l.initial.out) (g.K.Sink.faults l.out) l.piece l.rest

abbrev pub decreases-loop-rest : goal.decreases-loop-rest
decreases-loop-rest g l = length l.rest
