use Rattle.bb_readback.proofs.FilledTexts.{filled_texts_are_read}
use Rattle.bb_readback.proofs.laws.filled_texts_are_read.Goals as goal

pub returns : goal.returns
returns c = filled_texts_are_read c.read_pieces_are_longest.ensures
