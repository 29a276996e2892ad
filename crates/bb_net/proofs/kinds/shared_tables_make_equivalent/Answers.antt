use Rattle.bb_net.proofs.SharedTables.{shared_or_not, shared_some, shared_none, apart_some, apart_none}
use Rattle.bb_net.proofs.kinds.shared_tables_make_equivalent.Goals as goal

pub returns-clause-cases : goal.returns-clause-cases
returns-clause-cases c = shared_or_not

pub returns-clause-some : goal.returns-clause-some
returns-clause-some c = shared_some

pub returns-clause-none : goal.returns-clause-none
returns-clause-none c = shared_none

pub returns-clause-some_differ : goal.returns-clause-some_differ
returns-clause-some_differ c = λ spec imp kinds fit apart. (shared_some spec imp kinds fit, apart_some spec imp kinds fit apart)

pub returns-clause-none_differ : goal.returns-clause-none_differ
returns-clause-none_differ c = λ spec imp kinds fit apart. (apart_none spec imp kinds fit apart, shared_none spec imp kinds fit)
