use Rattle.bb_parse.proofs.Sizes.{texts_are_long}
use Rattle.bb_parse.proofs.laws.texts_are_long.Goals as goal

pub returns : goal.returns
returns c = texts_are_long c.tokens_are_few.ensures
