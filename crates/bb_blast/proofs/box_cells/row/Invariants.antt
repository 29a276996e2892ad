use Rattle.std.proofs.Common.{◌≡◌, map}
use Rattle.std.specs.List.{range_with_len}
use Rattle.bb_blast.specs.Inside.Counting.{after}
use Rattle.bb_blast.proofs.box_cells.row.Given as goal

abbrev pub invariant-loop-k : goal.invariant-loop-k
invariant-loop-k l = l.row.items ≡ map (after l.base) (range_with_len 0 l.k)
