use Rattle.bb_bits.proofs.TableLemmas.{table_of_rows, rows_fix_table}
use Rattle.bb_bits.proofs.table.rows_are_tables.Goals as goal

pub returns-clause-found : goal.returns-clause-found
returns-clause-found c = table_of_rows

pub returns-clause-unique : goal.returns-clause-unique
returns-clause-unique c = rows_fix_table
