use Rattle.bb_fill.proofs.LineWords.{words_are_nets}
use Rattle.bb_fill.proofs.laws.words_are_nets.Goals as goal

pub returns : goal.returns
returns c = words_are_nets
