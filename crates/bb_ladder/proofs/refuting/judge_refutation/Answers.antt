use Rattle.std.proofs.Common.{◌≡◌, ℕ, codes}
use Rattle.std.proofs.lemmas.Result.{IfOk-weaker}
use Rattle.bb_verdict.specs.declared.answer.Answer.{Answer}
use Rattle.bb_ladder.specs.Refutations.{Checks, FailsAt, IsCheckRefusal, Refutes, no_line}
use Rattle.bb_ladder.proofs.refuting.judge_refutation.Goals as goal

pub returns-clause-yes : goal.returns-clause-yes
returns-clause-yes c =
    let so : (a : Answer) → Checks c.args.first.now c.args.second.now a.status a.report.items → a.status ≡ 0 → (a.report.items ≡ codes "rup yes\n") × Refutes c.args.first.now c.args.second.now =
    λ a checks is. c.refutations_are_answered.ensures.yes c.args.first.now c.args.second.now a.status a.report.items checks is in
    IfOk-weaker _ _ _ so c.answer.ensures.answer

pub returns-clause-no : goal.returns-clause-no
returns-clause-no c =
    let so : (a : Answer) → Checks c.args.first.now c.args.second.now a.status a.report.items → a.status ≡ 1 → (n : ℕ) × (a.report.items ≡ no_line n) × FailsAt c.args.first.now c.args.second.now n =
    λ a checks is. c.refutations_are_answered.ensures.no c.args.first.now c.args.second.now a.status a.report.items checks is in
    IfOk-weaker _ _ _ so c.answer.ensures.answer

pub returns-clause-refused : goal.returns-clause-refused
returns-clause-refused c =
    let so : (a : Answer) → Checks c.args.first.now c.args.second.now a.status a.report.items → a.status ≡ 2 → IsCheckRefusal c.args.first.now c.args.second.now a.report.items =
    λ a checks is. c.refutations_are_answered.ensures.refused c.args.first.now c.args.second.now a.status a.report.items checks is in
    IfOk-weaker _ _ _ so c.answer.ensures.answer
