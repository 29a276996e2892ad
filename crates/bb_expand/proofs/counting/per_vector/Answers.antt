use Rattle.bb_expand.proofs.BoxesThere.{cell_has_box}
use Rattle.bb_expand.proofs.counting.per_vector.Goals as goal

pub clauses_of_cells-requires : goal.clauses_of_cells-requires
clauses_of_cells-requires c = rw (c.cells.ensures.cells, c.boxes.ensures.boxes) (record { there = cell_has_box c.args.imp.now c.cells.ensures.kept })
