use Rattle.bb_iso.proofs.IsomorphicCells.{isomorphic_nets_have_cells}
use Rattle.bb_iso.proofs.laws.isomorphic_nets_have_cells.Goals as goal

pub returns : goal.returns
returns c = isomorphic_nets_have_cells
