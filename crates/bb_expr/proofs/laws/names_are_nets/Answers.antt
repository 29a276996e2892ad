use Rattle.bb_expr.proofs.NameLemmas.{names_are_nets}
use Rattle.bb_expr.proofs.laws.names_are_nets.Goals as goal

pub returns : goal.returns
returns c = names_are_nets
