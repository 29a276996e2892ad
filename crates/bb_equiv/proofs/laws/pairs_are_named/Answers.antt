use Rattle.bb_equiv.proofs.NamedPairs.{pairs_are_named}
use Rattle.bb_equiv.proofs.laws.pairs_are_named.Goals as goal

pub returns : goal.returns
returns c = pairs_are_named c.compared_are_the_others.ensures
