use Rattle.bb_equiv.proofs.OneBit.{counterexamples_refute}
use Rattle.bb_equiv.proofs.counterexamples.counterexamples_refute.Goals as goal

pub returns : goal.returns
returns c = counterexamples_refute
