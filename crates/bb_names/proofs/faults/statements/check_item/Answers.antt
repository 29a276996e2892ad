use Rattle.bb_names.proofs.Answering.{ok_of}
use Rattle.bb_names.proofs.faults.statements.check_item.Goals as goal

pub returns-clause-declared : goal.returns-clause-declared
returns-clause-declared c = λ before h. ok_of c.answer.result (c.in_ok-look_at_item.ensures.declared before h)
