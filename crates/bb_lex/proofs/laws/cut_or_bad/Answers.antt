use Rattle.bb_lex.proofs.LawProofs.{cut_or_bad}
use Rattle.bb_lex.proofs.laws.cut_or_bad.Goals as goal

pub returns : goal.returns
returns c = cut_or_bad
