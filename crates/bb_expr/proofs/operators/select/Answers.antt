use Rattle.std.proofs.Common.{◌∙◌, refl, sym, take, get_or, arith}
use Rattle.bb_expr.specs.declared.step.BitStep.TheVariants as of
use Rattle.bb_expr.specs.Inside.Growing.{paired}
use Rattle.bb_expr.proofs.PlaceLemmas.{row-count, pairs-more, pairs-length, pairs-all}
use Rattle.bb_expr.proofs.GateLemmas.{length-paired}
use Rattle.bb_expr.proofs.ChoiceLemmas.{adds-arm}
use Rattle.bb_expr.proofs.OperatorLemmas.{read-at}
use Rattle.bb_expr.proofs.operators.select.Goals as goal

pub add-requires : goal.add-requires
add-requires c =
    omega (
      arith,
      pairs-length (of.Mux c.args.condition) c.args.chosen.now c.args.others.now c.loop-i.i c.args.steps.now.items c.loop-i.steps.items c.loop-i.places.items
          (omega arith) (omega (arith, c.requires.same)) c.loop-i.invariant,
      c.requires.room,
    )

pub loop-i-preserved : goal.loop-i-preserved
loop-i-preserved c =
    let op = of.Mux c.args.condition in
    let before = paired op (take c.loop-i.i c.args.chosen.now) (take c.loop-i.i c.args.others.now) in
    pairs-more op c.args.chosen.now c.args.others.now c.loop-i.i (get_or c.args.chosen.now c.loop-i.i 0) (get_or c.args.others.now c.loop-i.i 0) c.args.steps.now.items c.add.new.steps.items c.add.new.places.items
    c.loop-i-test.true (omega (arith, c.loop-i-test.true, c.requires.same)) (read-at c.args.chosen.now c.loop-i.i c.loop-i-test.true) (read-at c.args.others.now c.loop-i.i (omega (arith, c.loop-i-test.true, c.requires.same)))
    (c.in_ok-add.ensures before c.args.steps.now.items c.loop-i.invariant)

pub returns : goal.returns
returns c = record {
  made = λ nets e m t old first second x y z.
      adds-arm nets e m t old first second c.args.steps.now.items c.loop-i.steps.items c.args.others.now c.args.chosen.now c.loop-i.places.items c.args.condition x y z c.requires.same c.requires.some
      (pairs-all (of.Mux c.args.condition) c.args.chosen.now c.args.others.now c.loop-i.i c.args.steps.now.items c.loop-i.steps.items c.loop-i.places.items c.loop-i-test.false (omega (arith, c.loop-i-test.false, c.requires.same)) c.loop-i.invariant);
  grown = omega (arith, pairs-length (of.Mux c.args.condition) c.args.chosen.now c.args.others.now c.loop-i.i c.args.steps.now.items c.loop-i.steps.items c.loop-i.places.items (omega arith) (omega (arith, c.requires.same)) c.loop-i.invariant, c.loop-i-test.false);
  count = row-count (paired (of.Mux c.args.condition) c.args.chosen.now c.args.others.now) c.args.steps.now.items c.loop-i.steps.items c.loop-i.places.items
      (pairs-all (of.Mux c.args.condition) c.args.chosen.now c.args.others.now c.loop-i.i c.args.steps.now.items c.loop-i.steps.items c.loop-i.places.items c.loop-i-test.false (omega (arith, c.loop-i-test.false, c.requires.same)) c.loop-i.invariant)
      ∙ length-paired (of.Mux c.args.condition) _ c.args.chosen.now c.args.others.now refl (sym c.requires.same);
}
