use Rattle.bb_lex.proofs.LawProofs.{sized_bits_fit}
use Rattle.bb_lex.proofs.laws.sized_bits_fit.Goals as goal

pub returns : goal.returns
returns c = sized_bits_fit
