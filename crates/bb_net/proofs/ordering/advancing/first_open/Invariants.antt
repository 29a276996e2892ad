use Rattle.std.proofs.Common.{ℕ, ◌<◌}
use Rattle.std.specs.Prelude.{slice_index}
use Rattle.bb_net.specs.Inside.Placings.{IsPlaced}
use Rattle.bb_net.proofs.ordering.advancing.first_open.Given as goal

abbrev pub invariant-loop-pin : goal.invariant-loop-pin
invariant-loop-pin l = (p : ℕ) → p < l.pin → IsPlaced l.to (slice_index l.ins p)
