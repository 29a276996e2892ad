use Rattle.std.proofs.Common.{◌≡◌, ℕ, List, Ok}
use Rattle.std.proofs.lemmas.Result.{IfOk-weaker}
use Rattle.bb_rup.specs.Dimacs.{dimacs_of}
use Rattle.bb_verdict.specs.declared.answer.Answer.{Answer}
use Rattle.bb_ladder.specs.Refutations.{Checks}
use Rattle.bb_ladder.proofs.RefutationLaws.{formula_refused}
use Rattle.bb_ladder.proofs.refuting.answer.Goals as goal

pub returns-in-Ok : goal.returns-in-Ok
returns-in-Ok c =
    let so : (a : Answer) → ((first : List ℕ) → dimacs_of first ≡ Ok c.in-Ok.cnf → Checks first c.args.second.now a.status a.report.items) → Checks c.args.first.now c.args.second.now a.status a.report.items =
    λ a e. e c.args.first.now c.in-Ok.ensures.ok in
    record { answer = IfOk-weaker _ _ _ so c.judge_additions.ensures.answer }

pub returns-in-Err : goal.returns-in-Err
returns-in-Err c = record { answer = formula_refused c.args.first.now c.args.second.now c.in-Err.fault c.in-Err.ensures.fault c.refuse.result c.refuse.ensures.status c.refuse.ensures.report c.refuse.ensures.memory }
