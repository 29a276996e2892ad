use Rattle.bb_net.proofs.ConditionLaws.{known_cases, always_or_not, all_or_not, suit_or_not}
use Rattle.bb_net.proofs.conditions.vectors_hold_or_not.Goals as goal

pub returns-clause-known : goal.returns-clause-known
returns-clause-known c = known_cases

pub returns-clause-one : goal.returns-clause-one
returns-clause-one c = always_or_not

pub returns-clause-some : goal.returns-clause-some
returns-clause-some c = all_or_not

pub returns-clause-suit : goal.returns-clause-suit
returns-clause-suit c = suit_or_not
