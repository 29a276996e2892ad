use Rattle.bb_equiv.proofs.Runs.{comparable_designs_have_runs}
use Rattle.bb_equiv.proofs.laws.comparable_designs_have_runs.Goals as goal

pub returns : goal.returns
returns c = comparable_designs_have_runs
