use Rattle.std.proofs.Common.{arith}
use Rattle.bb_net.specs.Values.{bit_of}
use Rattle.bb_net.proofs.TableLemmas.{row-below}
use Rattle.bb_net.proofs.tables.tabled_pin.Goals as goal

pub row_number-row-requires-clause-few : goal.row_number-row-requires-clause-few
row_number-row-requires-clause-few c =
    omega (arith, c.tables_have_few_inputs.ensures c.args.table.now c.inputs.ensures.kept (omega arith))

pub bit-requires-clause-row : goal.bit-requires-clause-row
bit-requires-clause-row c =
    let below = row-below (bit_of c.args.out.now) c.args.pins.now.ins c.args.table.now.inputs c.requires.inputs c.number_is_below.ensures in
    rw (c.row_number-row.ensures, c.ins.ensures.ins) below
