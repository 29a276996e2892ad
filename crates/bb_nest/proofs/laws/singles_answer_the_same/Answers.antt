use Rattle.bb_nest.proofs.Singles.{answers_alike}
use Rattle.bb_nest.proofs.laws.singles_answer_the_same.Goals as goal

pub returns : goal.returns
returns c = answers_alike c.conditions_hold_or_not.ensures.choices c.conditions_weaken.ensures.choices
