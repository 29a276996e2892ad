use Rattle.std.proofs.Common.{ℕ, ◌<◌}
use Rattle.bb_net.specs.Loose.{IsOnClosedWalk}
use Rattle.bb_net.proofs.ordering.walks.least_on_walk.Given as goal

abbrev pub invariant-loop-place : goal.invariant-loop-place
invariant-loop-place l = (k : ℕ) → k < l.place → IsOnClosedWalk l.loose k → ⊥
