use Rattle.bb_lex.proofs.LawProofs.{plain_values_fit}
use Rattle.bb_lex.proofs.laws.plain_values_fit.Goals as goal

pub returns : goal.returns
returns c = plain_values_fit
