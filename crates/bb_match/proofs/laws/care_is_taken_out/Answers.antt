use Rattle.bb_match.proofs.CareLemmas.{care_is_taken_out}
use Rattle.bb_match.proofs.laws.care_is_taken_out.Goals as goal

pub returns : goal.returns
returns c = care_is_taken_out
