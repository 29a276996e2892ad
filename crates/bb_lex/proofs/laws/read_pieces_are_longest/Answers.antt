use Rattle.bb_lex.proofs.LawProofs.{read_pieces_are_longest}
use Rattle.bb_lex.proofs.laws.read_pieces_are_longest.Goals as goal

pub returns : goal.returns
returns c = read_pieces_are_longest
