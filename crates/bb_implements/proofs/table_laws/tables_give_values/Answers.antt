use Rattle.bb_implements.proofs.ContentTables.{tables_give_values}
use Rattle.bb_implements.proofs.table_laws.tables_give_values.Goals as goal

pub returns : goal.returns
returns c = tables_give_values c.value_goes_by_boxes.ensures c.rows_are_chosen.ensures.bit
