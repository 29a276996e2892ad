use Rattle.bb_equiv.proofs.Mistakes.{wrong_vectors_are_mistakes}
use Rattle.bb_equiv.proofs.laws.wrong_vectors_are_mistakes.Goals as goal

pub returns : goal.returns
returns c = wrong_vectors_are_mistakes c.lower_laws.ensures
