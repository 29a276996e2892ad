use Rattle.bb_implements.proofs.BoxHeights.{boxes_have_heights}
use Rattle.bb_implements.proofs.naming_laws.boxes_have_heights.Goals as goal

pub returns : goal.returns
returns c = boxes_have_heights c.laws_of_designs.ensures
