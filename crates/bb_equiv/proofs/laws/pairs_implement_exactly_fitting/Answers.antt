use Rattle.bb_equiv.proofs.FittingPairs.{pairs_implement_exactly_fitting}
use Rattle.bb_equiv.proofs.laws.pairs_implement_exactly_fitting.Goals as goal

pub returns : goal.returns
returns c = pairs_implement_exactly_fitting c.nets_are_taken_as_designs.ensures c.pairs_fit.ensures c.fitting_have_pair.ensures
