use Rattle.bb_lex.proofs.LawProofs.{not_tokens_and_bad_line}
use Rattle.bb_lex.proofs.laws.not_tokens_and_bad_line.Goals as goal

pub returns : goal.returns
returns c = not_tokens_and_bad_line
