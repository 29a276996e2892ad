use Rattle.std.proofs.Common.{◌≡◌, map, take, slice_index}
use Rattle.bb_net.specs.Rearrangements.{new_place}
use Rattle.bb_net.proofs.rearranging.picked.Given as goal

abbrev pub invariant-loop-j : goal.invariant-loop-j
invariant-loop-j l = l.list.items ≡ map (λ j. new_place l.numbers (slice_index l.outs j)) (take l.j-index l.picks)
