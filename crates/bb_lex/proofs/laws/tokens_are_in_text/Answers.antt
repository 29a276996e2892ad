use Rattle.bb_lex.proofs.LawProofs.{tokens_are_in_text}
use Rattle.bb_lex.proofs.laws.tokens_are_in_text.Goals as goal

pub returns : goal.returns
returns c = tokens_are_in_text
