use Rattle.bb_net.proofs.TernLemmas.{IsTern-tern}
use Rattle.bb_net.proofs.tern.tern_exists.Goals as goal

pub returns : goal.returns
returns c = IsTern-tern
