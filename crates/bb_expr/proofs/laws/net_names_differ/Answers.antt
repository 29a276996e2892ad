use Rattle.bb_expr.proofs.KnownNames.{net_names_differ}
use Rattle.bb_expr.proofs.laws.net_names_differ.Goals as goal

pub returns : goal.returns
returns c = net_names_differ
