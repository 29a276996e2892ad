use Rattle.std.proofs.Common.{◌+◌, length, arith}
use Rattle.bb_expr.proofs.circuits.instantiate_cells.Goals as goal

pub step_of-requires-clause-reads : goal.step_of-requires-clause-reads
step_of-requires-clause-reads c =
    (2 + length c.args.inputs.now + c.loop-cell.cell-index, omega (arith, c.requires.first, c.loop-cell-test.true), c.requires.earlier c.loop-cell.cell-index c.loop-cell-test.true)
