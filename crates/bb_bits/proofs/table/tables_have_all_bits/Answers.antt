use Rattle.std.proofs.Common.{subst, arith}
use Rattle.std.proofs.lemmas.List.{take_all}
use Rattle.std.proofs.lemmas.List.Elements.{All-more}
use Rattle.bb_bits.specs.Tables.{IsTable}
use Rattle.bb_bits.proofs.table.tables_have_all_bits.Goals as goal

pub loop-table-preserved : goal.loop-table-preserved
loop-table-preserved c =
    All-more IsTable c.args.tables.now c.loop-table.table-index c.table-item.result c.loop-table-test.true c.loop-table.invariant (subst IsTable c.table-item.is c.keeps_its_bits.ensures)

pub returns : goal.returns
returns c = rw (take_all c.loop-table.table-index c.args.tables.now (omega arith)) at c.loop-table.invariant
