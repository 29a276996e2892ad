use Rattle.bb_lex.proofs.LawProofs.{longest_pieces_are_read}
use Rattle.bb_lex.proofs.laws.longest_pieces_are_read.Goals as goal

pub returns : goal.returns
returns c = longest_pieces_are_read
