use Rattle.bb_lex.proofs.LawProofs.{ends_at_first_place}
use Rattle.bb_lex.proofs.laws.ends_at_first_place.Goals as goal

pub returns : goal.returns
returns c = ends_at_first_place
