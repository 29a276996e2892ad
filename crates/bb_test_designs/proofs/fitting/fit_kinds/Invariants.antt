-- The boxes that were looked at have as many pins as the tables of their kinds.
use Rattle.std.proofs.Common.{◌≡◌, ◌<◌, ℕ, length, get_or}
use Rattle.bb_net.specs.Netlists.{box_at}
use Rattle.bb_net.specs.Values.{table_at}
use Rattle.bb_test_designs.proofs.fitting.fit_kinds.Given as goal

abbrev pub invariant-loop-b : goal.invariant-loop-b
invariant-loop-b l = (k : ℕ) → k < l.b → (get_or l.kinds k 0 < length l.tables)
    × ((table_at l.tables (get_or l.kinds k 0)).inputs ≡ length (box_at l.boxes k).ins) × ((table_at l.tables (get_or l.kinds k 0)).outputs ≡ length (box_at l.boxes k).outs)
