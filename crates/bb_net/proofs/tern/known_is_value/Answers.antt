use Rattle.bb_net.proofs.TernLemmas.{tern-known}
use Rattle.bb_net.proofs.tern.known_is_value.Goals as goal

pub returns : goal.returns
returns c = tern-known
