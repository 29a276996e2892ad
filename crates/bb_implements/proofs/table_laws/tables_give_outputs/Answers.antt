use Rattle.bb_implements.proofs.ContentTables.{tables_give_outputs}
use Rattle.bb_implements.proofs.table_laws.tables_give_outputs.Goals as goal

pub returns : goal.returns
returns c = tables_give_outputs c.implementing_nets_give_outputs.ensures c.tables_give_values.ensures
