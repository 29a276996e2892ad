use Rattle.bb_lex.proofs.LawProofs.{read_bits_are_meant}
use Rattle.bb_lex.proofs.laws.read_bits_are_meant.Goals as goal

pub returns : goal.returns
returns c = read_bits_are_meant
