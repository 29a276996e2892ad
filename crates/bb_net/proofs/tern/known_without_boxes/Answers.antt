use Rattle.bb_net.proofs.TernLemmas.{tern-without_boxes}
use Rattle.bb_net.proofs.tern.known_without_boxes.Goals as goal

pub returns : goal.returns
returns c = tern-without_boxes
