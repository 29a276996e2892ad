use Rattle.std.proofs.Common.{◌≡◌, ◌<◌, ℕ, length}
use Rattle.bb_net.specs.Values.{bit_of}
use Rattle.bb_tern.specs.Inside.Lanes.{lane}
use Rattle.bb_tern.proofs.comparing.first_lanes.Given as goal

abbrev pub invariant-loop-k : goal.invariant-loop-k
invariant-loop-k l = (length l.marks.items ≡ l.k) × ((i : ℕ) → i < l.k → bit_of l.marks.items i ≡ lane l.word i)
