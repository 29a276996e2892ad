use Rattle.std.proofs.Common.{◌≡◌, map, take, drop}
use Rattle.bb_net.specs.Rearrangements.{moved_cell}
use Rattle.bb_net.proofs.rearranging.move_cells.Given as goal

abbrev pub invariant-loop-k : goal.invariant-loop-k
invariant-loop-k l = (take l.k l.cells ≡ map (moved_cell l.numbers) (take l.k l.initial.cells)) × (drop l.k l.cells ≡ drop l.k l.initial.cells)
