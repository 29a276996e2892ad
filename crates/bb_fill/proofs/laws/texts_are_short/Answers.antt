use Rattle.bb_fill.proofs.TextLengths.{texts_are_short}
use Rattle.bb_fill.proofs.laws.texts_are_short.Goals as goal

pub returns : goal.returns
returns c = texts_are_short c.words_are_nets.ensures
