use Rattle.std.proofs.Common.{◌≡◌, ◌++◌, take}
use Rattle.std.specs.List.{flat_map}
use Rattle.bb_implements.specs.Inside.ReadPlaces.{read_by}
use Rattle.bb_elab.proofs.reading.add_reads.Given as goal

abbrev pub invariant-loop-cell : goal.invariant-loop-cell
invariant-loop-cell l = l.places.items ≡ l.fn.places.items ++ flat_map read_by (take l.cell-index l.cells)
