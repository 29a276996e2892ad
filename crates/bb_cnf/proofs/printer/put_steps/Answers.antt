use Rattle.std.proofs.Common.{◌+◌, ◌++◌, ◌∙◌, sym, ap, take}
use Rattle.bb_cnf.specs.Lines.{step_line, step_lines}
use Rattle.bb_cnf.proofs.Kept.{kept_on_err}
use Rattle.bb_cnf.proofs.PrintedLines.{added, step_lines-more}
use Rattle.bb_cnf.proofs.printer.put_steps.Goals as goal

pub returns-in_err-put_step-clause-err : goal.returns-in_err-put_step-clause-err
returns-in_err-put_step-clause-err c = kept_on_err _ _ _ _ _ c.loop-place.invariant c.in_err-put_step.ensures.err

pub loop-place-preserved : goal.loop-place-preserved
loop-place-preserved c =
    added _ _ _ _ _ _ c.loop-place.invariant c.in_ok-put_step.ensures.ok
    (step_lines-more c.args.first c.args.steps.now c.loop-place.place c.index-steps-place.result c.loop-place-test.true
    ∙ ap (λ step. step_lines c.args.first (take c.loop-place.place c.args.steps.now) ++ step_line (c.args.first + c.loop-place.place) step) (sym c.index-steps-place.is))
