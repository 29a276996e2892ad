use Rattle.bb_verdict.proofs.TextPairLaws.{refusals_are_one}
use Rattle.bb_verdict.proofs.text_laws.refusals_are_one.Goals as goal

pub returns : goal.returns
returns c = refusals_are_one c.designs_are_allowed.ensures c.texts_have_designs.ensures.designs c.texts_have_designs.ensures.not_both c.texts_have_designs.ensures.faults c.design_refusals_are_one.ensures
