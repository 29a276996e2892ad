use Rattle.bb_expr.proofs.OccurringLemmas.{occurrences_are_fit_in}
use Rattle.bb_expr.proofs.laws.occurrences_are_fit_in.Goals as goal

pub returns : goal.returns
returns c = occurrences_are_fit_in
