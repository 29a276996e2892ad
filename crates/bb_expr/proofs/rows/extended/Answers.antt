use Rattle.std.proofs.Common.{false, length, ap, arith, length-append}
use Rattle.bb_expr.specs.declared.step.BitStep.TheVariants as of
use Rattle.bb_expr.proofs.PlaceLemmas.{extended-made, repeated-length, repeated-count}
use Rattle.bb_expr.proofs.rows.extended.Goals as goal

pub returns : goal.returns
returns c = record {
  made = λ nets m old adds.
      extended-made nets m old c.args.steps.now.items c.loop-turn.steps.items c.args.bits.now c.loop-turn.places.items c.extend_from_slice.new.self.items c.args.width c.loop-turn.turn adds c.loop-turn.invariant
      (omega (arith, c.saturating_sub-missing.ensures, c.loop-turn-test.false)) c.in_ok-extend_from_slice.ensures.items;
  grown = omega (arith, repeated-length (of.Const false) c.loop-turn.turn c.args.steps.now.items c.loop-turn.steps.items c.loop-turn.places.items c.loop-turn.invariant, c.saturating_sub-missing.ensures, c.loop-turn-test.false);
  count = omega (
    arith,
    repeated-count (of.Const false) c.loop-turn.turn c.args.steps.now.items c.loop-turn.steps.items c.loop-turn.places.items c.loop-turn.invariant,
    c.saturating_sub-missing.ensures,
    c.loop-turn-test.false,
    ap length c.in_ok-extend_from_slice.ensures.items,
    length-append c.loop-turn.places.items c.args.bits.now,
  );
}
