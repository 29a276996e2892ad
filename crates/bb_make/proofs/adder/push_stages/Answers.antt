use Rattle.std.proofs.Common.{◌∙◌, ◌++◌, ap}
use Rattle.bb_make.specs.Adders.{cell, stage_line}
use Rattle.bb_make.proofs.Joined.{one_stage_more}
use Rattle.bb_make.proofs.adder.push_stages.Goals as goal

pub loop-i-preserved : goal.loop-i-preserved
loop-i-preserved c =
    c.in_ok-push_stage.ensures.text
    ∙ ap (λ name. c.loop-i.text.items ++ stage_line name c.args.n c.loop-i.i) c.cell.ensures.cell
    ∙ one_stage_more (λ i. stage_line (cell c.args.gap i) c.args.n i) c.args.text.now.items c.loop-i.text.items c.loop-i.i c.loop-i.invariant
