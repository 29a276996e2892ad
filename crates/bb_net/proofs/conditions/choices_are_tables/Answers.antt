use Rattle.bb_net.proofs.ChoiceTables.{choices_are_tables_lem, Laws}
use Rattle.bb_net.proofs.conditions.choices_are_tables.Goals as goal

pub returns-clause-found : goal.returns-clause-found
returns-clause-found c =
    let l = c.laws_of_tables.ensures in
    let laws : Laws = record { shape = l.shape; chosen = l.chosen; table = l.table; below = l.below; width = l.width; spelled = l.spelled } in
    choices_are_tables_lem laws

pub returns-clause-none : goal.returns-clause-none
returns-clause-none c = λ spec imp kept few none won.
    let l = c.laws_of_tables.ensures in
    let laws : Laws = record { shape = l.shape; chosen = l.chosen; table = l.table; below = l.below; width = l.width; spelled = l.spelled } in
    let found = choices_are_tables_lem laws spec imp kept few won in
    none found.0 found.1 found.2
