use Rattle.bb_match.proofs.CarePairs.{pairs_are_one}
use Rattle.bb_match.proofs.laws.pairs_are_one.Goals as goal

pub returns : goal.returns
returns c = pairs_are_one c.keys_have_kinds.ensures.one
