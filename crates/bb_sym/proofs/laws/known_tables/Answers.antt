use Rattle.bb_sym.proofs.KnownTables.{known_table_laws}
use Rattle.bb_sym.proofs.laws.known_tables.Goals as goal

pub returns : goal.returns
returns c = known_table_laws c.tern_exists.ensures
