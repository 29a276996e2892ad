use Rattle.std.proofs.Common.{◌≡◌, ◌⊎◌, ℕ, List}
use Rattle.std.proofs.lemmas.Result.{IfOk-weaker}
use Rattle.bb_verdict.specs.declared.answer.Answer.{Answer}
use Rattle.bb_verdict.specs.InvariantAnswers.{AnswersTexts, AreDecidedWith, AreLeftOpenWith, AreRefutedWith, AreShownWith, IsFinishedWith, IsOpenReportWith, IsRefusalLine}
use Rattle.bb_verdict.specs.TextPairs.{AreStayingOpen, DoFit}
use Rattle.bb_verdict.proofs.judging.judge_pair.Goals as goal

pub returns-clause-fit : goal.returns-clause-fit
returns-clause-fit c =
    let so : (a : Answer) → AnswersTexts c.args.requested.now c.args.spec.now c.args.imp.now a.status a.report.items → (a.status ≡ 2 → ⊥) → DoFit c.args.requested.now c.args.spec.now c.args.imp.now =
    λ a answered. (c.answers_to_texts_are_meant.ensures c.args.requested.now c.args.spec.now c.args.imp.now a.status a.report.items answered).fit in
    IfOk-weaker _ _ _ so c.answer.ensures.answer

pub returns-clause-repairable : goal.returns-clause-repairable
returns-clause-repairable c =
    let so : (a : Answer) → AnswersTexts c.args.requested.now c.args.spec.now c.args.imp.now a.status a.report.items → a.status ≡ 0 → IsFinishedWith c.args.requested.now c.args.spec.now c.args.imp.now a.report.items =
    λ a answered. (c.answers_to_texts_are_meant.ensures c.args.requested.now c.args.spec.now c.args.imp.now a.status a.report.items answered).finished in
    IfOk-weaker _ _ _ so c.answer.ensures.answer

pub returns-clause-error : goal.returns-clause-error
returns-clause-error c =
    let so : (a : Answer) → AnswersTexts c.args.requested.now c.args.spec.now c.args.imp.now a.status a.report.items → a.status ≡ 1 → AreRefutedWith c.args.requested.now c.args.spec.now c.args.imp.now =
    λ a answered. (c.answers_to_texts_are_meant.ensures c.args.requested.now c.args.spec.now c.args.imp.now a.status a.report.items answered).refuted in
    IfOk-weaker _ _ _ so c.answer.ensures.answer

pub returns-clause-shown : goal.returns-clause-shown
returns-clause-shown c =
    let so : (a : Answer) → AnswersTexts c.args.requested.now c.args.spec.now c.args.imp.now a.status a.report.items → a.status ≡ 1 → AreShownWith c.args.requested.now c.args.spec.now c.args.imp.now a.report.items =
    λ a answered. (c.answers_to_texts_are_meant.ensures c.args.requested.now c.args.spec.now c.args.imp.now a.status a.report.items answered).shown in
    IfOk-weaker _ _ _ so c.answer.ensures.answer

pub returns-clause-open_report : goal.returns-clause-open_report
returns-clause-open_report c =
    let so : (a : Answer) → AnswersTexts c.args.requested.now c.args.spec.now c.args.imp.now a.status a.report.items → a.status ≡ 3 → IsOpenReportWith c.args.requested.now c.args.spec.now c.args.imp.now a.report.items =
    λ a answered. (c.answers_to_texts_are_meant.ensures c.args.requested.now c.args.spec.now c.args.imp.now a.status a.report.items answered).open_report in
    IfOk-weaker _ _ _ so c.answer.ensures.answer

pub returns-clause-left_open : goal.returns-clause-left_open
returns-clause-left_open c =
    let so : (a : Answer) → AnswersTexts c.args.requested.now c.args.spec.now c.args.imp.now a.status a.report.items → a.status ≡ 3 → AreLeftOpenWith c.args.requested.now c.args.spec.now c.args.imp.now =
    λ a answered. (c.answers_to_texts_are_meant.ensures c.args.requested.now c.args.spec.now c.args.imp.now a.status a.report.items answered).left_open in
    IfOk-weaker _ _ _ so c.answer.ensures.answer

pub returns-clause-decided : goal.returns-clause-decided
returns-clause-decided c =
    let so : (a : Answer) → AnswersTexts c.args.requested.now c.args.spec.now c.args.imp.now a.status a.report.items → AreDecidedWith c.args.requested.now c.args.spec.now c.args.imp.now → (a.status ≡ 0) ⊎ (a.status ≡ 1) =
    λ a answered. (c.answers_to_texts_are_meant.ensures c.args.requested.now c.args.spec.now c.args.imp.now a.status a.report.items answered).decided in
    IfOk-weaker _ _ _ so c.answer.ensures.answer

pub returns-clause-stays_open : goal.returns-clause-stays_open
returns-clause-stays_open c =
    let so : (a : Answer) → AnswersTexts c.args.requested.now c.args.spec.now c.args.imp.now a.status a.report.items → AreStayingOpen c.args.requested.now c.args.spec.now c.args.imp.now → a.status ≡ 3 =
    λ a answered. (c.answers_to_texts_are_meant.ensures c.args.requested.now c.args.spec.now c.args.imp.now a.status a.report.items answered).stays_open in
    IfOk-weaker _ _ _ so c.answer.ensures.answer

pub returns-clause-refused : goal.returns-clause-refused
returns-clause-refused c =
    let so : (a : Answer) → AnswersTexts c.args.requested.now c.args.spec.now c.args.imp.now a.status a.report.items → a.status ≡ 2 → IsRefusalLine c.args.requested.now c.args.spec.now c.args.imp.now a.report.items =
    λ a answered. (c.answers_to_texts_are_meant.ensures c.args.requested.now c.args.spec.now c.args.imp.now a.status a.report.items answered).refused in
    IfOk-weaker _ _ _ so c.answer.ensures.answer

pub returns-clause-stays_refused : goal.returns-clause-stays_refused
returns-clause-stays_refused c =
    let so : (a : Answer) → AnswersTexts c.args.requested.now c.args.spec.now c.args.imp.now a.status a.report.items → (line : List ℕ) → IsRefusalLine c.args.requested.now c.args.spec.now c.args.imp.now line → (a.status ≡ 2) × (a.report.items ≡ line) =
    λ a answered. (c.answers_to_texts_are_meant.ensures c.args.requested.now c.args.spec.now c.args.imp.now a.status a.report.items answered).stays_refused in
    IfOk-weaker _ _ _ so c.answer.ensures.answer
