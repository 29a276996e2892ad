use Rattle.std.proofs.Common.{take}
use Rattle.std.specs.Prelude.{All}
use Rattle.bb_bits.specs.Tables.{IsTable}
use Rattle.bb_bits.proofs.table.tables_have_all_bits.Given as goal

abbrev pub invariant-loop-table : goal.invariant-loop-table
invariant-loop-table l = All IsTable (take l.table-index l.tables)
