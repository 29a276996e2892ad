use Rattle.std.proofs.Common.{◌≡◌, ◌++◌, map, take}
use Rattle.bb_blast.specs.Inside.Counting.{after}
use Rattle.bb_blast.proofs.box_cells.add_moved.Given as goal

abbrev pub invariant-loop-number : goal.invariant-loop-number
invariant-loop-number l = l.places.items ≡ l.initial.places.items ++ map (after l.base) (take l.number-index l.numbers)
