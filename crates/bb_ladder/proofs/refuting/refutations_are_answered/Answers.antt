use Rattle.bb_ladder.proofs.RefutationLaws.{check_laws}
use Rattle.bb_ladder.proofs.refuting.refutations_are_answered.Goals as goal

pub returns : goal.returns
returns c = check_laws c.additions.ensures
