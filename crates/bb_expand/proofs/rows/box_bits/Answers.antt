use Rattle.std.proofs.Common.{length, ap, arith}
use Rattle.bb_expand.proofs.Spelled.{few_inputs}
use Rattle.bb_expand.proofs.rows.box_bits.Goals as goal

pub overflow_cast-result : goal.overflow_cast-result
overflow_cast-result c =
    let few = few_inputs (length c.args.pins.now.outs) (length c.args.pins.now.ins) 24 (omega (arith, c.if-outs-eq0.false, ap length c.outs.ensures.outs)) c.requires.small in
    omega (arith, few, ap length c.ins.ensures.ins)

pub overflow_shl-result : goal.overflow_shl-result
overflow_shl-result c =
    let few = few_inputs (length c.args.pins.now.outs) (length c.args.pins.now.ins) 24 (omega (arith, c.if-outs-eq0.false, ap length c.outs.ensures.outs)) c.requires.small in
    omega (arith, few, ap length c.ins.ensures.ins)
