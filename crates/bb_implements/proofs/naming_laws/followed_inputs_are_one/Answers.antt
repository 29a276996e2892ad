use Rattle.bb_implements.proofs.OccurringNames.{followed_inputs_are_one}
use Rattle.bb_implements.proofs.naming_laws.followed_inputs_are_one.Goals as goal

pub returns : goal.returns
returns c = followed_inputs_are_one c.laws_of_designs.ensures
