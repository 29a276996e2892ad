use Rattle.bb_equiv.proofs.Runs.{equivalent_designs_run_the_same}
use Rattle.bb_equiv.proofs.laws.equivalent_designs_run_the_same.Goals as goal

pub returns : goal.returns
returns c = equivalent_designs_run_the_same
