use Rattle.std.proofs.Common.{rules, ◌≡◌, ◌⊎◌, Ok, Err}
use Rattle.bb_cnf.specs.Clauses.{lists_of}
use Rattle.bb_rup.specs.Dimacs.{additions_of}
use Rattle.bb_rup.specs.declared.fault.RupFault.TheVariants.{NoMemory}
use Rattle.bb_ladder.proofs.RefutationLaws.{additions_refused, checked}
use Rattle.bb_ladder.proofs.refuting.judge_additions.Goals as goal

pub returns-in-Ok : goal.returns-in-Ok
returns-in-Ok c =
    let read : additions_of c.args.second.now c.args.cnf.now.vars ≡ Ok (lists_of c.in-Ok.adds.items) = search rules in
    record { answer = checked c.args.cnf.now c.args.second.now (lists_of c.in-Ok.adds.items) read c.check.result (rw c.deref.ensures.value at c.check.ensures.answer) }

pub returns-in-Err : goal.returns-in-Err
returns-in-Err c =
    let may : (c.in-Err.fault ≡ NoMemory) ⊎ (additions_of c.args.second.now c.args.cnf.now.vars ≡ Err c.in-Err.fault) = search rules in
    record { answer = additions_refused c.args.cnf.now c.args.second.now c.in-Err.fault may c.refuse.result c.refuse.ensures.status c.refuse.ensures.report c.refuse.ensures.memory }
