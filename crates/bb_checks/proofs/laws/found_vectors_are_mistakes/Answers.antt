use Rattle.bb_checks.proofs.FoundLaw.{found_vectors_are_mistakes}
use Rattle.bb_checks.proofs.laws.found_vectors_are_mistakes.Goals as goal

pub returns : goal.returns
returns c = found_vectors_are_mistakes c.known_is_value.ensures c.patterns_are_vectors.ensures
