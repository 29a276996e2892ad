use Rattle.bb_expr.proofs.OccurringLemmas.{parts_occur}
use Rattle.bb_expr.proofs.laws.parts_occur.Goals as goal

pub returns : goal.returns
returns c = parts_occur
