use Rattle.std.proofs.Common.{◌∙◌}
use Rattle.bb_ladder.proofs.MadeLemmas.{judged_made}
use Rattle.bb_ladder.proofs.making.judge_made.Goals as goal

pub returns : goal.returns
returns c = record {
  answer = judged_made (record { n = c.args.n; fill = c.args.fill; options = c.args.options.now }) c.in_ok-requested.requested c.deref.result.now c.deref-2.result.now c.in_ok-answer.answer c.headed.result
      c.in_ok-requested.ensures.requested (c.deref.ensures.value ∙ c.in_ok-spec.ensures.spec) (c.deref-2.ensures.value ∙ c.in_ok-spec.ensures.imp)
      c.in_ok-answer.ensures.answer c.headed.ensures.status c.headed.ensures.report;
}
