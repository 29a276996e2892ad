use Rattle.bb_watch.proofs.Occurrences.{clause_occurs}
use Rattle.bb_watch.proofs.clauses.clause_at.Goals as goal

pub returns : goal.returns
returns c = clause_occurs _ _ _ _ c.requires c.index-clauses-number.is c.as_slice.ensures
