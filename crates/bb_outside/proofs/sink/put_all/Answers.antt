use Rattle.std.proofs.Common.{arith}
use Rattle.std.proofs.lemmas.Grind.{common_steps}
use Rattle.bb_outside.proofs.Written.{IsWritten-more}
use Rattle.bb_outside.proofs.sink.put_all.Goals as goal

pub loop-rest-preserved : goal.loop-rest-preserved
loop-rest-preserved g c =
    IsWritten-more _ _ _ _ _ _ _ _ _ c.loop-rest.invariant c.in_ok-taken.ensures.at_most c.in_ok-taken.ensures.bytes (c.put.ensures.counted.1 (grind (arith, common_steps)))
