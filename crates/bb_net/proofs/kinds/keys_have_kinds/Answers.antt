use Rattle.bb_net.proofs.KindNumbers.{kinds_exist, kinds_are_one}
use Rattle.bb_net.proofs.kinds.keys_have_kinds.Goals as goal

pub returns-clause-some : goal.returns-clause-some
returns-clause-some c = kinds_exist

pub returns-clause-one : goal.returns-clause-one
returns-clause-one c = kinds_are_one
