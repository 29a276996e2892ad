use Rattle.bb_parse.proofs.Sizes.{sources_are_short}
use Rattle.bb_parse.proofs.laws.sources_are_short.Goals as goal

pub returns : goal.returns
returns c = sources_are_short
