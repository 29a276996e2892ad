use Rattle.bb_net.proofs.ConditionLaws.{known_or_not, one_or_not, some_or_not, choices_or_not, tables_or_not}
use Rattle.bb_net.proofs.conditions.conditions_hold_or_not.Goals as goal

pub returns-clause-known : goal.returns-clause-known
returns-clause-known c = known_or_not

pub returns-clause-one : goal.returns-clause-one
returns-clause-one c = one_or_not

pub returns-clause-some : goal.returns-clause-some
returns-clause-some c = some_or_not

pub returns-clause-choices : goal.returns-clause-choices
returns-clause-choices c = choices_or_not

pub returns-clause-tables : goal.returns-clause-tables
returns-clause-tables c = tables_or_not
