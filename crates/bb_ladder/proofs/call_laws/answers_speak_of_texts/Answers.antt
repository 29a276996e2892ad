use Rattle.bb_ladder.proofs.HeadlineLemmas.{answers_speak}
use Rattle.bb_ladder.proofs.call_laws.answers_speak_of_texts.Goals as goal

pub returns : goal.returns
returns c = answers_speak c.words_request_once.ensures c.answers_to_texts_are_meant.ensures
