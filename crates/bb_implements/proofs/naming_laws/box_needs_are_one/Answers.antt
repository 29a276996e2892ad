use Rattle.bb_implements.proofs.BoxNeeds.{box_needs_are_one}
use Rattle.bb_implements.proofs.naming_laws.box_needs_are_one.Goals as goal

pub returns : goal.returns
returns c = box_needs_are_one c.laws_of_designs.ensures
