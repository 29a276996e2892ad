use Rattle.bb_input.proofs.SpecificationBeads.{input_holds}
use Rattle.bb_input.proofs.laws.specification_counts.Goals as goal

pub returns : goal.returns
returns c = input_holds c.specification_counts.ensures.cells
