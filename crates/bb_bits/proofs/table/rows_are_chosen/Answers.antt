use Rattle.bb_bits.proofs.TableLemmas.{row_at-rows_of, output_bit-rows_of}
use Rattle.bb_bits.proofs.table.rows_are_chosen.Goals as goal

pub returns-clause-row : goal.returns-clause-row
returns-clause-row c = row_at-rows_of

pub returns-clause-bit : goal.returns-clause-bit
returns-clause-bit c = output_bit-rows_of
