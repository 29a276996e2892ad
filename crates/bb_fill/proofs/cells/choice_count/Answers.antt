use Rattle.std.proofs.Common.{arith}
use Rattle.bb_fill.proofs.cells.choice_count.Goals as goal

pub table_of-requires-clause-pin : goal.table_of-requires-clause-pin
table_of-requires-clause-pin c = c.cell_of.ensures.pin c.in-BoxOut.b c.in-BoxOut.p c.in-BoxOut.is

pub returns-in-BoxOut-clause-few : goal.returns-in-BoxOut-clause-few
returns-in-BoxOut-clause-few c = omega (arith, c.row_count.ensures.few, c.row_count.ensures.some)
