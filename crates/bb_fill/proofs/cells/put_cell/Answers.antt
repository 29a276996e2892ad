use Rattle.bb_fill.proofs.cells.put_cell.Goals as goal

pub table_of-table-requires-clause-pin : goal.table_of-table-requires-clause-pin
table_of-table-requires-clause-pin c = c.cell_of.ensures.pin c.in-BoxOut.b c.in-BoxOut.p c.in-BoxOut.is
