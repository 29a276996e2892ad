use Rattle.bb_expr.proofs.OccurringLemmas.{occurrences_are_fit}
use Rattle.bb_expr.proofs.laws.occurrences_are_fit.Goals as goal

pub returns : goal.returns
returns c = occurrences_are_fit
