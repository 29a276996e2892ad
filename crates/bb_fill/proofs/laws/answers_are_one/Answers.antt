use Rattle.bb_fill.proofs.AnswerLaws.{answers_are_one}
use Rattle.bb_fill.proofs.laws.answers_are_one.Goals as goal

pub returns : goal.returns
returns c = answers_are_one
