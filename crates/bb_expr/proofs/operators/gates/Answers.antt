use Rattle.std.proofs.Common.{◌++◌, ◌∷◌, [], ◌∙◌, refl, sym, subst, take, get_or, arith}
use Rattle.bb_expr.specs.Inside.Growing.{AddsRow, paired, gate_step}
use Rattle.bb_expr.proofs.PlaceLemmas.{row-count, pairs-more, pairs-length, pairs-all}
use Rattle.bb_expr.proofs.GateLemmas.{length-paired}
use Rattle.bb_expr.proofs.OperatorLemmas.{adds-gated, read-at}
use Rattle.bb_expr.proofs.operators.gates.Goals as goal

pub add-requires : goal.add-requires
add-requires c =
    omega (
      arith,
      pairs-length (gate_step c.args.op) c.args.left.now c.args.right.now c.loop-i.i c.args.steps.now.items c.loop-i.steps.items c.loop-i.places.items
          (omega arith) (omega (arith, c.requires.same)) c.loop-i.invariant,
      c.requires.room,
    )

pub loop-i-preserved : goal.loop-i-preserved
loop-i-preserved c =
    let op = gate_step c.args.op in
    let before = paired op (take c.loop-i.i c.args.left.now) (take c.loop-i.i c.args.right.now) in
    pairs-more op c.args.left.now c.args.right.now c.loop-i.i (get_or c.args.left.now c.loop-i.i 0) (get_or c.args.right.now c.loop-i.i 0) c.args.steps.now.items c.add.new.steps.items c.add.new.places.items
    c.loop-i-test.true (omega (arith, c.loop-i-test.true, c.requires.same)) (read-at c.args.left.now c.loop-i.i c.loop-i-test.true) (read-at c.args.right.now c.loop-i.i (omega (arith, c.loop-i-test.true, c.requires.same)))
    (subst (λ s. AddsRow (before ++ s ∷ []) c.args.steps.now.items c.add.new.steps.items c.add.new.places.items) c.gate.ensures (c.in_ok-add.ensures before c.args.steps.now.items c.loop-i.invariant))

pub returns : goal.returns
returns c =
    let op = gate_step c.args.op in
    let row = pairs-all op c.args.left.now c.args.right.now c.loop-i.i c.args.steps.now.items c.loop-i.steps.items c.loop-i.places.items c.loop-i-test.false (omega (arith, c.loop-i-test.false, c.requires.same)) c.loop-i.invariant in
    record {
      made = λ nets m n old mid x y. adds-gated nets c.args.op m n old mid c.args.steps.now.items c.loop-i.steps.items c.args.left.now c.args.right.now c.loop-i.places.items x y c.requires.same row;
      grown = omega (arith, pairs-length op c.args.left.now c.args.right.now c.loop-i.i c.args.steps.now.items c.loop-i.steps.items c.loop-i.places.items (omega arith) (omega (arith, c.requires.same)) c.loop-i.invariant, c.loop-i-test.false);
      count = row-count (paired op c.args.left.now c.args.right.now) c.args.steps.now.items c.loop-i.steps.items c.loop-i.places.items row
          ∙ length-paired op _ c.args.left.now c.args.right.now refl (sym c.requires.same);
    }
