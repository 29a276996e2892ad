use Rattle.bb_verdict.proofs.FilledAnswers.{filling_only_adds}
use Rattle.bb_verdict.proofs.text_laws.filling_only_adds.Goals as goal

pub returns : goal.returns
returns c = filling_only_adds c.answers_exist.ensures
