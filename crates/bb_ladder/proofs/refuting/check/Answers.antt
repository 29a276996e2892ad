use Rattle.bb_cnf.specs.Clauses.{lists_of}
use Rattle.bb_ladder.proofs.RefutationLaws.{no_reported}
use Rattle.bb_ladder.proofs.refuting.check.Goals as goal

pub returns-in-No : goal.returns-in-No
returns-in-No c = record { answer = no_reported c.args.cnf.now.clauses (lists_of c.args.adds.now) c.in-No.number c.say_no.result ((c.in_ok-rup.ensures.no c.in-No.number).0 c.in-No.is) c.say_no.ensures }
