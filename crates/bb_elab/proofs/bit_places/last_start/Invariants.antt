use Rattle.std.proofs.Common.{◌<◌, ◌≤◌, ◌-◌}
use Rattle.std.specs.List.{slice_index_or}
use Rattle.bb_elab.proofs.bit_places.last_start.Given as goal

abbrev pub invariant-loop-low : goal.invariant-loop-low
invariant-loop-low l = record { order : l.low < l.high; end : l.high ≤ l.count; here : slice_index_or l.starts l.low 0 ≤ l.number; next : l.high < l.count → l.number < slice_index_or l.starts l.high 0 }

abbrev pub decreases-loop-low : goal.decreases-loop-low
decreases-loop-low l = l.high - l.low
