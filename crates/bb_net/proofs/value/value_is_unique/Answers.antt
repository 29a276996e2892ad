use Rattle.bb_net.proofs.ValueLaws.{value_is_unique_lem}
use Rattle.bb_net.proofs.value.value_is_unique.Goals as goal

pub returns : goal.returns
returns c = value_is_unique_lem
