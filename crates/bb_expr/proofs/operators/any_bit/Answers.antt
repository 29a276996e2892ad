use Rattle.std.proofs.Common.{ap, length, arith, length-append, get_or, ◌∷◌, []}
use Rattle.bb_expr.specs.declared.step.BitStep.TheVariants as of
use Rattle.bb_expr.proofs.OperatorLemmas.{way-first, way-further, way-ended, read-at}
use Rattle.bb_expr.proofs.operators.any_bit.Goals as goal

pub loop-i-init : goal.loop-i-init
loop-i-init c = record {
  way = λ nets m old adds. way-first nets m old c.args.steps.now.items c.args.bits.now c.requires.some adds;
  count = omega arith;
}

pub loop-i-preserved : goal.loop-i-preserved
loop-i-preserved c = record {
  way = λ nets m old adds.
      way-further nets m old c.loop-i.steps.items c.push.new.steps.items c.args.bits.now c.loop-i.i c.loop-i.any (get_or c.args.bits.now c.loop-i.i 0) c.in_ok-any.any c.loop-i-test.true
      (read-at c.args.bits.now c.loop-i.i c.loop-i-test.true) (c.loop-i.invariant.way nets m old adds) c.in_ok-any.ensures.steps c.in_ok-any.ensures.place;
  count = omega (arith, ap length c.in_ok-any.ensures.steps, length-append c.loop-i.steps.items (of.Or c.loop-i.any (get_or c.args.bits.now c.loop-i.i 0) ∷ []), c.loop-i.invariant.count, c.loop-i.auto.i);
}

pub returns : goal.returns
returns c = record {
  made = λ nets m old adds. way-ended nets m old c.loop-i.steps.items c.args.bits.now c.loop-i.i c.loop-i.any c.loop-i-test.false (c.loop-i.invariant.way nets m old adds);
  grown = omega (arith, c.loop-i.invariant.count, c.loop-i-test.false, c.loop-i.auto.i-end c.requires.some);
}
