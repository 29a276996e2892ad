use Rattle.std.proofs.Common.{ℕ, ◌<◌, take}
use Rattle.std.specs.Prelude.{Contains, slice_index}
use Rattle.bb_net.proofs.ordering.ranks.above.Given as goal

abbrev pub invariant-loop-a : goal.invariant-loop-a
invariant-loop-a l = (a : ℕ) → Contains (take l.a-index l.places) a → slice_index l.ranks a < l.above
