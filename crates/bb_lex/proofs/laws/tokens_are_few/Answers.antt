use Rattle.bb_lex.proofs.LawProofs.{tokens_are_few}
use Rattle.bb_lex.proofs.laws.tokens_are_few.Goals as goal

pub returns : goal.returns
returns c = tokens_are_few
