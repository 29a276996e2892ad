use Rattle.bb_lex.proofs.LawProofs.{tokens_end_past_their_places}
use Rattle.bb_lex.proofs.laws.tokens_end_past_their_places.Goals as goal

pub returns : goal.returns
returns c = tokens_end_past_their_places
