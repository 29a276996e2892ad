use Rattle.bb_net.proofs.ValueLaws.{value_exists_lem}
use Rattle.bb_net.proofs.value.value_exists.Goals as goal

pub returns : goal.returns
returns c = value_exists_lem
