use Rattle.std.proofs.Common.{length, arith}
use Rattle.bb_net.proofs.ValueLemmas.{IsWritten-more}
use Rattle.bb_net.proofs.value.write_cells.Goals as goal

pub loop-place-preserved : goal.loop-place-preserved
loop-place-preserved c =
    IsWritten-more c.args.cells.now c.args.x.now c.args.out.now c.loop-place.out c.loop-place.place (length c.args.x.now) c.cell_bit.result
    (omega arith) (omega arith) c.requires.ordered c.cell_bit.ensures c.loop-place.invariant
