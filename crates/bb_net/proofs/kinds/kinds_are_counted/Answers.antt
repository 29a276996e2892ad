use Rattle.bb_net.proofs.KindNumbers.{prefix_in_order, kind_is_count, kind_has_first}
use Rattle.bb_net.proofs.SharedTables.{pins_shown}
use Rattle.bb_net.proofs.kinds.kinds_are_counted.Goals as goal

pub returns-clause-prefix : goal.returns-clause-prefix
returns-clause-prefix c = prefix_in_order

pub returns-clause-new : goal.returns-clause-new
returns-clause-new c = kind_is_count

pub returns-clause-first : goal.returns-clause-first
returns-clause-first c = kind_has_first

pub returns-clause-inputs : goal.returns-clause-inputs
returns-clause-inputs c = λ kinds boxes b fit h. (pins_shown kinds boxes fit b h).0

pub returns-clause-outputs : goal.returns-clause-outputs
returns-clause-outputs c = λ kinds boxes b fit h. (pins_shown kinds boxes fit b h).1
