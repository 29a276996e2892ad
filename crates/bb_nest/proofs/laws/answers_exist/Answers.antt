use Rattle.bb_nest.proofs.SomeAnswers.{answers_exist}
use Rattle.bb_nest.proofs.laws.answers_exist.Goals as goal

pub returns : goal.returns
returns c = answers_exist c.laws_of_tables.ensures c.conditions_hold_or_not.ensures.choices
