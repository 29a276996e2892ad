use Rattle.std.proofs.Common.{◌≡◌, ◌<◌, ℕ, length, map, vec_items}
use Rattle.bb_net.specs.Values.{bit_of}
use Rattle.bb_tern.specs.Inside.Lanes.{lane, word_at, pattern_at}
use Rattle.bb_tern.proofs.packing.pack.Given as goal

abbrev pub invariant-loop-i : goal.invariant-loop-i
invariant-loop-i l = (length l.ins ≡ length l.fn.ins) × ((j k : ℕ) → j < l.i → k < length l.patterns → lane (word_at l.ins j) k ≡ bit_of (pattern_at (map vec_items l.patterns) k) j)
