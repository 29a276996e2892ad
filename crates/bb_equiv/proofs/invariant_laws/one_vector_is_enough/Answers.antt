use Rattle.bb_equiv.proofs.InvariantRuns.{one_vector_is_enough}
use Rattle.bb_equiv.proofs.invariant_laws.one_vector_is_enough.Goals as goal

pub returns : goal.returns
returns c = one_vector_is_enough
