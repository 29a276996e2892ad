use Rattle.std.proofs.Common.{◌<◌, ℕ, Some}
use Rattle.bb_tern.specs.Inside.Lanes.{bits_in, ReportsWrong}
use Rattle.bb_tern.proofs.comparing.differing_lanes.Given as goal

abbrev pub invariant-loop-j : goal.invariant-loop-j
invariant-loop-j l = (k : ℕ) → k < 64 → ReportsWrong (bits_in l.wanted k) (λ place. Some (bits_in l.given k place)) l.spec_outs l.imp_outs l.j l.lanes k
