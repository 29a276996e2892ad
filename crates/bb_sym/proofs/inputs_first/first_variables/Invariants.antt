use Rattle.std.proofs.Common.{◌≡◌, ◌+◌, ◌<◌, ℕ, take, length, slice_index_or}
use Rattle.bb_net.specs.Values.{output_pins}
use Rattle.bb_sym.proofs.inputs_first.first_variables.Given as goal

abbrev pub invariant-loop-pins : goal.invariant-loop-pins
invariant-loop-pins l =
    (l.next ≡ l.first + output_pins (take l.pins-index l.boxes)) × (length l.starts.items ≡ l.pins-index)
    × ((b : ℕ) → b < l.pins-index → slice_index_or l.starts.items b 0 ≡ l.first + output_pins (take b l.boxes))
