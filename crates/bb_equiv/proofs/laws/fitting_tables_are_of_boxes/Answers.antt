use Rattle.bb_equiv.proofs.DesignPairs.{fitting_tables_are_of_boxes}
use Rattle.bb_equiv.proofs.laws.fitting_tables_are_of_boxes.Goals as goal

pub returns : goal.returns
returns c = fitting_tables_are_of_boxes c.kinds_are_shown.ensures.firsts c.kinds_are_shown-2.ensures.firsts c.kinds_are_shown.ensures.there
