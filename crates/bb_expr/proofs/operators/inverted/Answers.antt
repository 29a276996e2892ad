use Rattle.std.proofs.Common.{arith}
use Rattle.bb_expr.specs.declared.step.BitStep.TheVariants as of
use Rattle.bb_expr.proofs.AddLemmas.{adds-inverted}
use Rattle.bb_expr.proofs.PlaceLemmas.{mapped-all, mapped-length, all-mapped-length}
use Rattle.bb_expr.proofs.operators.inverted.Goals as goal

pub returns : goal.returns
returns c = record {
  made = λ nets m old adds.
      adds-inverted nets m old c.args.steps.now.items c.loop-bit.steps.items c.args.bits.now c.loop-bit.places.items adds
      (mapped-all of.Not c.args.bits.now c.loop-bit.bit-index c.args.steps.now.items c.loop-bit.steps.items c.loop-bit.places.items c.loop-bit-test.false c.loop-bit.invariant);
  grown = omega (arith, mapped-length of.Not c.args.bits.now c.loop-bit.bit-index c.args.steps.now.items c.loop-bit.steps.items c.loop-bit.places.items (omega arith) c.loop-bit.invariant, c.loop-bit-test.false);
  count = (all-mapped-length of.Not c.args.bits.now c.args.steps.now.items c.loop-bit.steps.items c.loop-bit.places.items
      (mapped-all of.Not c.args.bits.now c.loop-bit.bit-index c.args.steps.now.items c.loop-bit.steps.items c.loop-bit.places.items c.loop-bit-test.false c.loop-bit.invariant)).1;
}
