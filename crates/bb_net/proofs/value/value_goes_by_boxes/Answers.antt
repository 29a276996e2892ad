use Rattle.bb_net.proofs.ChoiceTables.{value_swap}
use Rattle.bb_net.proofs.value.value_goes_by_boxes.Goals as goal

pub returns : goal.returns
returns c = value_swap
