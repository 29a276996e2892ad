use Rattle.std.proofs.Common.{◌∙◌}
use Rattle.bb_quant.proofs.FirstBits.{bit_of_first}
use Rattle.bb_quant.proofs.Walks.{to_first, to_second}
use Rattle.bb_quant.proofs.points.under.Goals as goal

pub loop-var-preserved-then-point-var : goal.loop-var-preserved-then-point-var
loop-var-preserved-then-point-var c =
    let s = c.args.d.now.store in
    let means = c.in-Node.ensures.table in (
      c.stores.ensures.below_is_ref s c.in-Node.var c.in-Node.hi.0 means.2,
      λ q b. c.loop-var.invariant.1 q b ∙ to_second c.stores.ensures s c.loop-var.r.0 c.in-Node.var c.in-Node.lo c.in-Node.hi q means (b.0 ∙ c.requires.point)
          (bit_of_first c.args.fixed c.in-Node.var c.args.point.now q c.if-var-fixed.true b.1 ∙ c.if-point-var.true),
    )

pub loop-var-preserved : goal.loop-var-preserved
loop-var-preserved c =
    let s = c.args.d.now.store in
    let means = c.in-Node.ensures.table in (
      c.stores.ensures.below_is_ref s c.in-Node.var c.in-Node.lo.0 means.1,
      λ q b. c.loop-var.invariant.1 q b ∙ to_first c.stores.ensures s c.loop-var.r.0 c.in-Node.var c.in-Node.lo c.in-Node.hi q means (b.0 ∙ c.requires.point)
          (bit_of_first c.args.fixed c.in-Node.var c.args.point.now q c.if-var-fixed.true b.1 ∙ c.if-point-var.false),
    )
