use Rattle.bb_implements.proofs.ContentTables.{find_tables}
use Rattle.bb_implements.proofs.table_laws.contents_have_tables.Goals as goal

pub returns : goal.returns
returns c = λ d f occurs contents fit. find_tables d f occurs contents c.rows_are_tables.ensures.found fit
