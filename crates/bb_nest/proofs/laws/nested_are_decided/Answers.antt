use Rattle.bb_nest.proofs.Filling.{tables_of_choices}
use Rattle.bb_nest.proofs.laws.nested_are_decided.Goals as goal

pub returns : goal.returns
returns c = λ spec imp kinds kept nested. (
  c.conditions_weaken.ensures.choices spec imp kept,
  λ none choices. (let found = tables_of_choices c.laws_of_tables.ensures spec imp kinds kept nested choices in none found.0 found.1 found.2),
)
