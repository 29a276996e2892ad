use Rattle.bb_match.proofs.CareLemmas.{compared_are_the_others}
use Rattle.bb_match.proofs.laws.compared_are_the_others.Goals as goal

pub returns : goal.returns
returns c = compared_are_the_others
