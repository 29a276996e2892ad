use Rattle.bb_design.proofs.CalleeLaw.{callees_are_instantiated}
use Rattle.bb_design.proofs.laws.callees_are_instantiated.Goals as goal

pub returns : goal.returns
returns c = callees_are_instantiated
