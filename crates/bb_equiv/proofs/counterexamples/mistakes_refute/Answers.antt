use Rattle.bb_equiv.proofs.OneBit.{mistakes_refute}
use Rattle.bb_equiv.proofs.counterexamples.mistakes_refute.Goals as goal

pub returns : goal.returns
returns c = mistakes_refute
