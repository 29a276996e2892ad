use Rattle.bb_verdict.proofs.SomeInvariantAnswers.{texts_are_answered}
use Rattle.bb_verdict.proofs.answer_laws.texts_are_answered.Goals as goal

pub returns : goal.returns
returns c = texts_are_answered c.texts_are_judged.ensures c.number_is_below.ensures c.made_can_be_unrolled.ensures c.unrolled_are_meant.ensures
