use Rattle.std.proofs.Common.{◌≡◌, ◌<◌, ◌≤◌, ◌-◌, Some, length}
use Rattle.std.specs.Prelude.{slice_get}
use Rattle.bb_blast.specs.declared.placed.Placed.{Placed}
use Rattle.bb_elab.proofs.bit_places.last_below.Given as goal

abbrev pub invariant-loop-low : goal.invariant-loop-low
invariant-loop-low l = record { order : l.low < l.high; end : l.high ≤ length l.placed; here : (p : Placed) × (slice_get l.placed l.low ≡ Some p) × (p.first ≤ l.number); next : (p : Placed) → slice_get l.placed l.high ≡ Some p → l.number < p.first }

abbrev pub decreases-loop-low : goal.decreases-loop-low
decreases-loop-low l = l.high - l.low
