use Rattle.std.proofs.Common.{false, length, arith}
use Rattle.bb_net.specs.Kinds.{per_box}
use Rattle.bb_net.specs.Values.{tabled_bit}
use Rattle.bb_net.proofs.Steps.{IsFilled-more}
use Rattle.bb_net.proofs.ValueLemmas.{value_step, value_step-local}
use Rattle.bb_net.proofs.tables.write_tabled.Goals as goal

pub tabled_cell-requires-clause-listed : goal.tabled_cell-requires-clause-listed
tabled_cell-requires-clause-listed c = λ b p e. (c.requires.listed c.loop-place.place b p c.loop-place-test.true e).0

pub loop-place-preserved : goal.loop-place-preserved
loop-place-preserved c =
    let cells = c.args.cells.now in
    let boxes = c.args.boxes.now in
    let x = c.args.x.now in
    let box = tabled_bit (per_box c.args.kinds.now c.args.tables.now) in
    IsFilled-more false (value_step boxes x box cells) c.loop-place.out c.loop-place.place (length cells) c.tabled_cell.result
    (value_step-local (length x) boxes x box cells c.requires.ordered) (omega arith) (omega arith) c.tabled_cell.ensures c.loop-place.invariant
