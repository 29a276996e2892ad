use Rattle.bb_verdict.proofs.StatusLaw.{fitting_are_refuted_by_designs}
use Rattle.bb_verdict.proofs.verdict_laws.fitting_are_refuted_by_designs.Goals as goal

pub returns : goal.returns
returns c = fitting_are_refuted_by_designs c.texts_have_designs.ensures.readings
