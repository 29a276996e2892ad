use Rattle.bb_match.proofs.CareLemmas.{without_outputs_are_flat}
use Rattle.bb_match.proofs.laws.without_outputs_are_flat.Goals as goal

pub returns : goal.returns
returns c = without_outputs_are_flat
