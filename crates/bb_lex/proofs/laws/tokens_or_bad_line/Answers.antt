use Rattle.bb_lex.proofs.LawProofs.{tokens_or_bad_line}
use Rattle.bb_lex.proofs.laws.tokens_or_bad_line.Goals as goal

pub returns : goal.returns
returns c = tokens_or_bad_line
