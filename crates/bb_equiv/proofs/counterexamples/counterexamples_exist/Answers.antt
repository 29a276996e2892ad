use Rattle.bb_equiv.proofs.SomeCounterexamples.{counterexamples_exist}
use Rattle.bb_equiv.proofs.counterexamples.counterexamples_exist.Goals as goal

pub returns : goal.returns
returns c = counterexamples_exist
