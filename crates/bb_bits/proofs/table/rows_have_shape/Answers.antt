use Rattle.bb_bits.proofs.TableLemmas.{HasShape-rows_of}
use Rattle.bb_bits.proofs.table.rows_have_shape.Goals as goal

pub returns : goal.returns
returns c = HasShape-rows_of
