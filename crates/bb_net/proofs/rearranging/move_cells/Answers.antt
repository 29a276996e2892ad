use Rattle.std.proofs.Common.{false}
use Rattle.bb_net.specs.declared.cell.Cell.TheVariants.{Const}
use Rattle.bb_net.specs.Rearrangements.{moved_cell}
use Rattle.bb_net.proofs.Rearranged.{changed_more}
use Rattle.bb_net.proofs.rearranging.move_cells.Goals as goal

pub loop-k-preserved : goal.loop-k-preserved
loop-k-preserved c = changed_more (moved_cell c.args.numbers.now) c.args.cells.now c.loop-k.cells c.loop-k.k (Const false) c.moved.result
    c.loop-k-test.true c.loop-k.auto.cells c.loop-k.invariant.0 c.loop-k.invariant.1 c.moved.ensures
