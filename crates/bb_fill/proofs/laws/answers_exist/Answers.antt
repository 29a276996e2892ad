use Rattle.bb_fill.proofs.AnswerLaws.{answers_exist}
use Rattle.bb_fill.proofs.laws.answers_exist.Goals as goal

pub returns : goal.returns
returns c = answers_exist
