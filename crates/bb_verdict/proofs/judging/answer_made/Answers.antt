use Rattle.std.proofs.Common.{◌∙◌, sym, ap, None, Some}
use Rattle.std.specs.Prelude.{option_map}
use Rattle.bb_verdict.proofs.InvariantJudged.{answers_by}
use Rattle.bb_verdict.proofs.TextPairLaws.{judged}
use Rattle.bb_verdict.proofs.judging.answer_made.Goals as goal

pub check-requires-clause-kept : goal.check-requires-clause-kept
check-requires-clause-kept c = c.made_can_be_filled.ensures c.args.requested.now c.args.spec.now c.args.imp.now c.args.made.now c.requires.made

pub returns-in-Some : goal.returns-in-Some
returns-in-Some c = record {
  answer = answers_by (Some c.in-Some.name.now) c.args.requested.now c.args.spec.now c.args.imp.now (sym c.invariant_name.ensures.name ∙ ap (option_map (λ name. name.now)) c.in-Some.is) c.answer_with.result c.answer_with.ensures.answer;
}

pub returns-in-None : goal.returns-in-None
returns-in-None c = record {
  answer = answers_by None c.args.requested.now c.args.spec.now c.args.imp.now (sym c.invariant_name.ensures.name ∙ ap (option_map (λ name. name.now)) c.in-None.is) c.check.result
      (judged c.args.requested.now c.args.spec.now c.args.imp.now c.args.made.now c.requires.made c.check.result c.check.ensures.answer);
}
