use Rattle.std.proofs.Common.{ℕ, ◌<◌, ◌≤◌}
use Rattle.std.specs.Prelude.{Contains, slice_index}
use Rattle.bb_net.specs.Loose.{loose_at, operand_places}
use Rattle.bb_net.proofs.ordering.ranks.cells_rise.Given as goal

abbrev pub invariant-loop-k : goal.invariant-loop-k
invariant-loop-k l = (k : ℕ) → k < l.k → (a : ℕ) → Contains (operand_places l.loose.boxes (loose_at l.loose k)) a → slice_index l.ranks.cells.items a ≤ slice_index l.ranks.cells.items k
