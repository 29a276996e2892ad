use Rattle.bb_net.proofs.TernLemmas.{IsTern-unique}
use Rattle.bb_net.proofs.tern.tern_is_unique.Goals as goal

pub returns : goal.returns
returns c = IsTern-unique
