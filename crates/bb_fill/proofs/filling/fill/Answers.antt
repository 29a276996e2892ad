use Rattle.std.proofs.Common.{ap}
use Rattle.bb_net.specs.Kinds.{per_box}
use Rattle.bb_fill.specs.Answers.{Clash, Clashes, answer_of}
use Rattle.bb_fill.proofs.FillAnswers.{due}
use Rattle.bb_fill.proofs.filling.fill.Goals as goal

pub returns-in-Some-clause-answer : goal.returns-in-Some-clause-answer
returns-in-Some-clause-answer c = Clashes c.in-Some.name.now c.in-Some.ensures.some (ap Clash c.in_ok-clone-in-Some.ensures.cases)

pub returns-in-Some-clause-due : goal.returns-in-Some-clause-due
returns-in-Some-clause-due c = λ answer may.
    c.answers_are_one.ensures c.args.flat.now (per_box c.args.kinds.now c.args.tables.now) (Clash c.in_ok-clone-in-Some.field-0) answer (Clashes c.in-Some.name.now c.in-Some.ensures.some (ap Clash c.in_ok-clone-in-Some.ensures.cases)) may

pub returns-clause-due : goal.returns-clause-due
returns-clause-due c = due c.answers_are_one.ensures c.args.flat.now (per_box c.args.kinds.now c.args.tables.now) (answer_of c.fill_apart.result) c.fill_apart.ensures.answer
