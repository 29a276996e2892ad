use Rattle.std.proofs.Common.{◌≡◌, ◌<◌, ◌≤◌, ℕ, false, map, vec_items}
use Rattle.bb_net.specs.Values.{bit_of}
use Rattle.bb_tern.specs.Inside.Lanes.{lane, pattern_at}
use Rattle.bb_tern.proofs.packing.column.Given as goal

-- the lanes of the patterns that were read, and none after them
abbrev pub invariant-loop-k : goal.invariant-loop-k
invariant-loop-k l = ((j : ℕ) → j < l.k → lane l.word j ≡ bit_of (pattern_at (map vec_items l.patterns) j) l.i) × ((j : ℕ) → l.k ≤ j → lane l.word j ≡ false)
