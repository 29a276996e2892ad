use Rattle.std.proofs.Common.{◌∙◌, ap, arith, max}
use Rattle.bb_fill.specs.Words.{leading}
use Rattle.bb_fill.proofs.StemLemmas.{greatest_more}
use Rattle.bb_fill.proofs.stems.most_of_registers.Goals as goal

pub loop-reg-preserved : goal.loop-reg-preserved
loop-reg-preserved c = (
  c.max-most.ensures ∙ ap (max c.loop-reg.most) c.leading.ensures.leading
      ∙ greatest_more (λ r. leading r.text) c.args.regs.now c.loop-reg.reg-index c.reg-item.result c.loop-reg.most c.args.most c.loop-reg-test.true c.reg-item.is c.loop-reg.invariant.0,
  omega (arith, c.max-most.ensures, c.leading.ensures.few, c.loop-reg.invariant.1),
)
