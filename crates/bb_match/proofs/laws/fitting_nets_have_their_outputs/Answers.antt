use Rattle.bb_match.proofs.CareLemmas.{fitting_nets_have_their_outputs}
use Rattle.bb_match.proofs.laws.fitting_nets_have_their_outputs.Goals as goal

pub returns : goal.returns
returns c = fitting_nets_have_their_outputs
