use Rattle.bb_lex.proofs.LawProofs.{cuts_are_one}
use Rattle.bb_lex.proofs.laws.cuts_are_one.Goals as goal

pub returns : goal.returns
returns c = cuts_are_one
