use Rattle.bb_dd.proofs.Variables.{leaf_at_point, step_to_hi, step_to_lo}
use Rattle.bb_dd.proofs.apply.bit_at.Goals as goal
use Rattle.std.proofs.Common.{◌∙◌}

pub returns-in-Leaf : goal.returns-in-Leaf
returns-in-Leaf c = leaf_at_point (record { tables = c.tables.ensures; stores = c.stores.ensures; growth = c.growth.ensures; steps = c.steps.ensures }) c.args.store.now c.loop-bit.r.0 c.in-Leaf.bit c.args.point.now c.in-Leaf.ensures.table c.requires.point ∙ c.loop-bit.invariant.1

pub loop-bit-preserved-then-point-var : goal.loop-bit-preserved-then-point-var
loop-bit-preserved-then-point-var c =
    let e = c.in-Node.ensures.table in
    let s = c.args.store.now in
    (c.stores.ensures.below_is_ref s c.in-Node.var c.in-Node.hi.0 e.2, step_to_hi (record { tables = c.tables.ensures; stores = c.stores.ensures; growth = c.growth.ensures; steps = c.steps.ensures }) s c.loop-bit.r.0 c.in-Node.var c.in-Node.lo.0 c.in-Node.hi.0 c.args.point.now e.0 e.3 c.requires.point c.if-point-var.true ∙ c.loop-bit.invariant.1)

pub loop-bit-preserved : goal.loop-bit-preserved
loop-bit-preserved c =
    let e = c.in-Node.ensures.table in
    let s = c.args.store.now in
    (c.stores.ensures.below_is_ref s c.in-Node.var c.in-Node.lo.0 e.1, step_to_lo (record { tables = c.tables.ensures; stores = c.stores.ensures; growth = c.growth.ensures; steps = c.steps.ensures }) s c.loop-bit.r.0 c.in-Node.var c.in-Node.lo.0 c.in-Node.hi.0 c.args.point.now e.0 e.3 c.requires.point c.if-point-var.false ∙ c.loop-bit.invariant.1)
