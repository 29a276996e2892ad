use Rattle.std.proofs.Common.{map, refl, string_bytes}
use Rattle.std.proofs.lemmas.Result.{IfOk-weaker}
use Rattle.bb_ladder.specs.Answers.{Making}
use Rattle.bb_verdict.specs.declared.answer.Answer.{Answer}
use Rattle.bb_ladder.proofs.TaskLemmas.{may_answer, task_or_pair}
use Rattle.bb_ladder.proofs.running.answer.Goals as goal

pub returns-in-Ok-Files-clause-answer : goal.returns-in-Ok-Files-clause-answer
returns-in-Ok-Files-clause-answer g c =
    let requests = rw c.in-Ok-Files.field-0-is at c.in-Ok-Files.ensures.job in
    IfOk-weaker _ _ _ (λ (a : Answer) e. may_answer _ c.in-Ok-Files.pair_request.spec.now c.in-Ok-Files.pair_request.imp.now c.in-Ok-Files.pair_request.task a.status a.report.items requests e) c.read_spec.ensures.answer

pub returns-in-Ok-Files-clause-reads_nothing : goal.returns-in-Ok-Files-clause-reads_nothing
returns-in-Ok-Files-clause-reads_nothing g c = λ m makes.
    let requests = rw c.in-Ok-Files.field-0-is at c.in-Ok-Files.ensures.job in
    absurd (task_or_pair c.words_request_once.ensures (map string_bytes c.args.words.now) c.in-Ok-Files.pair_request.spec.now c.in-Ok-Files.pair_request.imp.now c.in-Ok-Files.pair_request.task m requests makes)

pub returns-in-Ok-Made-clause-answer : goal.returns-in-Ok-Made-clause-answer
returns-in-Ok-Made-clause-answer g c =
    let requests = rw c.in-Ok-Made.field-0-is at c.in-Ok-Made.ensures.job in
    IfOk-weaker _ _ _ (λ (a : Answer) e. Making (record { n = c.in-Ok-Made.n; fill = c.in-Ok-Made.fill; options = c.in-Ok-Made.options }) requests refl e) c.judge_made.ensures.answer
