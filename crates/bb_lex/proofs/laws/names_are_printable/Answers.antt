use Rattle.bb_lex.proofs.LawProofs.{names_are_printable}
use Rattle.bb_lex.proofs.laws.names_are_printable.Goals as goal

pub returns : goal.returns
returns c = names_are_printable
