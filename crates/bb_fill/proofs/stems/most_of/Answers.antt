use Rattle.std.proofs.Common.{◌∙◌, ap, arith, max}
use Rattle.bb_fill.specs.Words.{leading}
use Rattle.bb_fill.proofs.StemLemmas.{greatest_more}
use Rattle.bb_fill.proofs.stems.most_of.Goals as goal

pub loop-name-preserved : goal.loop-name-preserved
loop-name-preserved c = (
  c.max-most.ensures ∙ ap (max c.loop-name.most) c.leading.ensures.leading
      ∙ greatest_more leading c.args.names.now c.loop-name.name-index c.name-item.result c.loop-name.most c.args.most c.loop-name-test.true c.name-item.is c.loop-name.invariant.0,
  omega (arith, c.max-most.ensures, c.leading.ensures.few, c.loop-name.invariant.1),
)
