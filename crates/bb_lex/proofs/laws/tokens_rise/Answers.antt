use Rattle.bb_lex.proofs.LawProofs.{tokens_rise}
use Rattle.bb_lex.proofs.laws.tokens_rise.Goals as goal

pub returns : goal.returns
returns c = tokens_rise
