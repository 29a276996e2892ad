use Rattle.std.proofs.Common.{ℕ, ◌<◌, ◌≤◌}
use Rattle.std.specs.Prelude.{Contains, slice_index}
use Rattle.bb_net.specs.Netlists.{box_at}
use Rattle.bb_net.proofs.ordering.ranks.boxes_rise.Given as goal

abbrev pub invariant-loop-b : goal.invariant-loop-b
invariant-loop-b l = (b : ℕ) → b < l.b → (a : ℕ) → Contains (box_at l.loose.boxes b).ins a → slice_index l.ranks.cells.items a ≤ slice_index l.ranks.boxes.items b
