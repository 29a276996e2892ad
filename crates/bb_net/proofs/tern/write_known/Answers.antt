use Rattle.std.proofs.Common.{[], None, length, arith}
use Rattle.bb_net.proofs.Steps.{IsFilled-more}
use Rattle.bb_net.proofs.TernLemmas.{tern_step, tern_step-local}
use Rattle.bb_net.proofs.tern.write_known.Goals as goal

pub loop-place-preserved : goal.loop-place-preserved
loop-place-preserved c =
    let cells = c.args.cells.now in
    let x = c.args.x.now in
    IsFilled-more None (tern_step x cells) c.loop-place.out c.loop-place.place (length cells) c.cell_known.result
    (tern_step-local (length x) [] x cells c.requires.ordered) (omega arith) (omega arith) c.cell_known.ensures c.loop-place.invariant
