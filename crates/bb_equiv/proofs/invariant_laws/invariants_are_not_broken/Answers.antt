use Rattle.bb_equiv.proofs.InvariantRuns.{invariants_are_not_broken}
use Rattle.bb_equiv.proofs.invariant_laws.invariants_are_not_broken.Goals as goal

pub returns : goal.returns
returns c = invariants_are_not_broken
