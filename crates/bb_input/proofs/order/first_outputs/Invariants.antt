use Rattle.std.proofs.Common.{◌≡◌, ◌<◌, ℕ, ◌+◌, length, take, slice_index_or}
use Rattle.bb_net.specs.Netlists.{box_at}
use Rattle.bb_net.specs.Pairs.{pin_count}
use Rattle.bb_input.proofs.order.first_outputs.Given as goal

abbrev pub invariant-loop-pins : goal.invariant-loop-pins
invariant-loop-pins l =
    (l.next ≡ pin_count (take l.pins-index l.boxes)) × (length l.starts.items ≡ l.pins-index)
    × ((b : ℕ) → b < l.pins-index → slice_index_or l.starts.items b 0 ≡ pin_count (take b l.boxes) + length (box_at l.boxes b).ins)
