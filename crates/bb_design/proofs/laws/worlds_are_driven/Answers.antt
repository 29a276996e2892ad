use Rattle.bb_design.proofs.WorldBits.{worlds_are_driven}
use Rattle.bb_design.proofs.laws.worlds_are_driven.Goals as goal

pub returns : goal.returns
returns c = worlds_are_driven c.constructs_hold_bit_by_bit.ensures
