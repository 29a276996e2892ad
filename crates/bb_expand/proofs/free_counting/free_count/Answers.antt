use Rattle.std.proofs.Common.{◌+◌, length, ap, arith}
use Rattle.bb_expand.proofs.FreeCounts.{length-free}
use Rattle.bb_expand.proofs.free_counting.free_count.Goals as goal

pub overflow_add-cells : goal.overflow_add-cells
overflow_add-cells c = omega (arith, c.of_cells.ensures.most, c.of_cells-2.ensures.most)

pub returns : goal.returns
returns c =
    let whole = length-free c.args.spec.now c.args.imp.now in
    let own = c.of_cells.ensures.count c.args.imp.now.inputs in
    let other = c.of_cells-2.ensures.count (c.args.imp.now.inputs + length c.args.imp.now.cells) in
    omega (arith, whole, own, other, ap length c.outs.ensures.outs, c.saturating_mul-outs.ensures, c.saturating_add.ensures, c.saturating_add-2.ensures)
