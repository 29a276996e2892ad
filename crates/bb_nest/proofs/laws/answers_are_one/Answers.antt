use Rattle.bb_nest.proofs.OneAnswer.{one_answer}
use Rattle.bb_nest.proofs.laws.answers_are_one.Goals as goal

pub returns : goal.returns
returns c = λ spec imp kinds kept.
    one_answer c.number_spelled_once.ensures spec imp c.number_spelled.ensures.length c.number_spelled.ensures.number c.rows_are_tables.ensures.unique kinds (c.conditions_weaken.ensures.choices spec imp kept)
