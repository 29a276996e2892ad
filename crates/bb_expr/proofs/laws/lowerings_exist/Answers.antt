use Rattle.bb_expr.proofs.SomeLowerings.{lowerings_exist}
use Rattle.bb_expr.proofs.laws.lowerings_exist.Goals as goal

pub returns : goal.returns
returns c = lowerings_exist
