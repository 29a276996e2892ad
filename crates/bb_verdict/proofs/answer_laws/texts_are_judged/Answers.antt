use Rattle.bb_verdict.proofs.SomeAnswers.{texts_are_judged}
use Rattle.bb_verdict.proofs.answer_laws.texts_are_judged.Goals as goal

pub returns : goal.returns
returns c = texts_are_judged c.designs_are_allowed.ensures c.texts_have_designs.ensures.either c.fit_or_refused.ensures c.fitting_designs_have_pairs.ensures c.climbs_exist.ensures c.answers_exist.ensures
