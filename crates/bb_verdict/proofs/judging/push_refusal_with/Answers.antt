use Rattle.std.proofs.Common.{◌++◌, ◌∙◌, ap, codes}
use Rattle.std.specs.Prelude.{option_map}
use Rattle.bb_verdict.specs.InvariantAnswers.{refusal_line_with}
use Rattle.bb_verdict.proofs.InvariantJudged.{pushed_line}
use Rattle.bb_verdict.proofs.judging.push_refusal_with.Goals as goal

pub returns-clause-line : goal.returns-clause-line
returns-clause-line c =
    let old = c.args.text.now.items in
    let pushed = c.in_ok-extend_from_slice-3.ensures.items
    ∙ ap (λ l. l ++ codes "\n") (c.in_ok-extend_from_slice-2.ensures.items ∙ ap (λ l. l ++ c.bytes.result.now) c.in_ok-extend_from_slice.ensures.items
    ∙ ap (λ l. (old ++ codes "refused pair invariant ") ++ l) c.bytes.ensures.bytes) in
    pushed_line (refusal_line_with (option_map (λ name. name.now) c.args.invariant) c.args.refusal.now) c.in-Some.name.now old c.extend_from_slice-3.new.self.items c.in-Some.ensures.some pushed
