use Rattle.bb_net.proofs.RearrangedValues.{keeps_values}
use Rattle.bb_net.proofs.rearranging.rearranged_keeps_values.Goals as goal

pub returns : goal.returns
returns c = keeps_values
