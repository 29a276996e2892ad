use Rattle.bb_net.proofs.ChoiceLaws.{some_is_lost}
use Rattle.bb_net.proofs.ChoiceTables.{no_choices_no_tables, Laws}
use Rattle.bb_net.proofs.ConditionLaws.{known_stays}
use Rattle.bb_net.proofs.conditions.conditions_weaken.Goals as goal

pub returns-clause-known : goal.returns-clause-known
returns-clause-known c = known_stays

pub returns-clause-some : goal.returns-clause-some
returns-clause-some c = some_is_lost

pub returns-clause-choices : goal.returns-clause-choices
returns-clause-choices c =
    let l = c.laws_of_tables.ensures in
    let laws : Laws = record { shape = l.shape; chosen = l.chosen; table = l.table; below = l.below; width = l.width; spelled = l.spelled } in
    no_choices_no_tables laws
