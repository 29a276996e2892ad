use Rattle.std.proofs.Common.{◌<◌, ℕ, Bool, Option, length}
use Rattle.bb_tern.specs.Inside.Lanes.{HasBits, HasValues, ReportsWrong}
use Rattle.bb_tern.proofs.passing.wrong_lanes.Given as goal

abbrev pub invariant-loop-j : goal.invariant-loop-j
invariant-loop-j l = (k : ℕ) (bit : ℕ → Bool) (value : ℕ → Option Bool) → k < 64 → HasBits l.wanted (length l.wanted) k bit → HasValues l.known (length l.known) k value →
    ReportsWrong bit value l.spec_outs l.imp_outs l.j l.lanes k
