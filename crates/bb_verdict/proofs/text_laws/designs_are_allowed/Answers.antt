use Rattle.bb_verdict.proofs.TextPairLaws.{designs_are_allowed}
use Rattle.bb_verdict.proofs.text_laws.designs_are_allowed.Goals as goal

pub returns : goal.returns
returns c = designs_are_allowed c.sources_are_formed.ensures c.sound_texts_are_allowed.ensures
