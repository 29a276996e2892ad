use Rattle.bb_lex.proofs.LawProofs.{sized_bits_are_one}
use Rattle.bb_lex.proofs.laws.sized_bits_are_one.Goals as goal

pub returns : goal.returns
returns c = sized_bits_are_one
