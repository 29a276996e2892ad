use Rattle.bb_iso.proofs.IsomorphicCells.{isomorphic_cells_have_one_bit}
use Rattle.bb_iso.proofs.laws.isomorphic_cells_have_one_bit.Goals as goal

pub returns : goal.returns
returns c = isomorphic_cells_have_one_bit c.value_exists.ensures
