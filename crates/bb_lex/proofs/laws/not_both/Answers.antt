use Rattle.bb_lex.proofs.LawProofs.{not_both}
use Rattle.bb_lex.proofs.laws.not_both.Goals as goal

pub returns : goal.returns
returns c = not_both
