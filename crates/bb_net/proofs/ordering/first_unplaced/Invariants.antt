use Rattle.std.proofs.Common.{ℕ, ◌<◌}
use Rattle.bb_net.specs.Inside.Placings.{IsPlaced}
use Rattle.bb_net.proofs.ordering.first_unplaced.Given as goal

abbrev pub invariant-loop-k : goal.invariant-loop-k
invariant-loop-k l = (j : ℕ) → j < l.k → IsPlaced l.to j
