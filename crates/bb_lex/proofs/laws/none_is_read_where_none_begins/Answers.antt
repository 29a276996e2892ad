use Rattle.bb_lex.proofs.LawProofs.{none_is_read_where_none_begins}
use Rattle.bb_lex.proofs.laws.none_is_read_where_none_begins.Goals as goal

pub returns : goal.returns
returns c = none_is_read_where_none_begins
