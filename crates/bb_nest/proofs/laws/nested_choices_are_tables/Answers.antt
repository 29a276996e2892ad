use Rattle.bb_nest.proofs.Filling.{tables_of_choices}
use Rattle.bb_nest.proofs.laws.nested_choices_are_tables.Goals as goal

pub returns : goal.returns
returns c = tables_of_choices c.laws_of_tables.ensures
