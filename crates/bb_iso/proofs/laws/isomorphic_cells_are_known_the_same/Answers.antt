use Rattle.bb_iso.proofs.IsomorphicCells.{isomorphic_cells_are_known_the_same}
use Rattle.bb_iso.proofs.laws.isomorphic_cells_are_known_the_same.Goals as goal

pub returns : goal.returns
returns c = isomorphic_cells_are_known_the_same c.tern_exists.ensures
