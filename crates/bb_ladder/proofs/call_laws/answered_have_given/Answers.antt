use Rattle.bb_ladder.proofs.GivenLemmas.{answered_have_given}
use Rattle.bb_ladder.proofs.call_laws.answered_have_given.Goals as goal

pub returns : goal.returns
returns c = answered_have_given c.words_request_once.ensures
