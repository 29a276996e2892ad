use Rattle.bb_match.proofs.CareLemmas.{care_outputs_are_left_out}
use Rattle.bb_match.proofs.laws.care_outputs_are_left_out.Goals as goal

pub returns : goal.returns
returns c = care_outputs_are_left_out
