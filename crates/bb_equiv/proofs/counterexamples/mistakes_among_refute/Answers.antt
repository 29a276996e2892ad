use Rattle.bb_equiv.proofs.OneBit.{mistakes_among_refute}
use Rattle.bb_equiv.proofs.counterexamples.mistakes_among_refute.Goals as goal

pub returns : goal.returns
returns c = mistakes_among_refute
