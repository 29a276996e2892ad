use Rattle.bb_lex.proofs.LawProofs.{bad_lines_are_one}
use Rattle.bb_lex.proofs.laws.bad_lines_are_one.Goals as goal

pub returns : goal.returns
returns c = bad_lines_are_one
