use Rattle.std.proofs.Common.{◌+◌, ◌-◌, ◌<◌, length, ap, arith}
use Rattle.bb_care.proofs.ConstrainedCells.{prefix_long}
use Rattle.bb_care.proofs.CopiedCells.{copies_begin, copy_is, copy_follows, copy_next}
use Rattle.bb_care.proofs.constrained.add_copies.Goals as goal

pub overflow_add-first : goal.overflow_add-first
overflow_add-first c = omega (arith, c.inputs-first.ensures.inputs, prefix_long c.args.spec.now c.inputs-first.ensures.kept, c.inputs-first.ensures.kept.cells_fit)

pub loop-k-init : goal.loop-k-init
loop-k-init c = (
  copies_begin c.args.spec.now c.args.imp.now (c.inputs-first.result + 2 - (c.args.spec.now.inputs + 2)) (omega (arith, c.inputs-first.ensures.inputs)),
  ap length c.cells-k-end.ensures.cells,
  omega (arith, c.inputs-first.ensures.inputs),
  omega (arith, c.inputs-first.ensures.inputs, prefix_long c.args.spec.now c.inputs-first.ensures.kept),
)

pub push-requires-clause-follows : goal.push-requires-clause-follows
push-requires-clause-follows c =
    let d = copy_is c.args.spec.now c.args.imp.now _ _ c.loop-k.k _ c.copied.result (ap (λ n. n + 2) c.inputs-first.ensures.inputs) (ap length c.cells.ensures.cells) c.cells-in-loop-k.ensures.cells c.copied.ensures.cell in
    copy_follows c.args.spec.now c.args.imp.now c.inputs-first.ensures.kept c.requires.no_box c.cells.ensures.kept c.requires.inputs c.loop-k.k c.loop-k.invariant.2 (omega (arith, c.loop-k-test.true, c.loop-k.invariant.1)) c.loop-k.imp c.copied.result c.loop-k.invariant.0 d

pub loop-k-preserved : goal.loop-k-preserved
loop-k-preserved c =
    let d = copy_is c.args.spec.now c.args.imp.now _ _ c.loop-k.k _ c.copied.result (ap (λ n. n + 2) c.inputs-first.ensures.inputs) (ap length c.cells.ensures.cells) c.cells-in-loop-k.ensures.cells c.copied.ensures.cell in
    let lt : c.loop-k.k < length c.args.spec.now.cells = omega (arith, c.loop-k-test.true, c.loop-k.invariant.1) in (
      copy_next c.args.spec.now c.args.imp.now c.inputs-first.ensures.kept c.requires.no_box c.cells.ensures.kept c.requires.inputs c.loop-k.k c.loop-k.invariant.2 lt c.loop-k.imp c.push.new.self c.copied.result c.loop-k.invariant.0 d c.in_ok-push.ensures.ok,
      c.loop-k.invariant.1,
      omega (arith, c.loop-k.invariant.2),
      omega (arith, lt),
    )
