use Rattle.bb_verdict.proofs.StatusLaw.{not_finished_and_refuted}
use Rattle.bb_verdict.proofs.verdict_laws.not_finished_and_refuted.Goals as goal

pub returns : goal.returns
returns c = not_finished_and_refuted c.texts_have_designs.ensures.readings
