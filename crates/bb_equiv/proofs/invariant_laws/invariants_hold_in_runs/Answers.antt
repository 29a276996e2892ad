use Rattle.bb_equiv.proofs.InvariantRuns.{invariants_hold_in_runs}
use Rattle.bb_equiv.proofs.invariant_laws.invariants_hold_in_runs.Goals as goal

pub returns : goal.returns
returns c = invariants_hold_in_runs
