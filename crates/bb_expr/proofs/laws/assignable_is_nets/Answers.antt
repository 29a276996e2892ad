use Rattle.bb_expr.proofs.AssignLemmas.{assignable_is_nets}
use Rattle.bb_expr.proofs.laws.assignable_is_nets.Goals as goal

pub returns : goal.returns
returns c = assignable_is_nets
