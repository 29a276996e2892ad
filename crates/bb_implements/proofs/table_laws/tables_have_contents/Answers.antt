use Rattle.bb_implements.proofs.ContentTables.{find_contents}
use Rattle.bb_implements.proofs.table_laws.tables_have_contents.Goals as goal

pub returns : goal.returns
returns c = λ d f apart occurs tables fit. find_contents d f occurs apart c.rows_have_shape.ensures tables fit
