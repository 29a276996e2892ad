use Rattle.std.proofs.Common.{◌≡◌, ℕ, ◌<◌, length, map, get_or, take}
use Rattle.bb_net.specs.Completions.{table_bits}
use Rattle.bb_net.specs.Netlists.{box_at}
use Rattle.bb_expand.proofs.rows.starts_of_boxes.Given as goal

abbrev pub invariant-loop-b : goal.invariant-loop-b
invariant-loop-b l = (l.start ≡ table_bits (take l.b-index (map (box_at l.boxes) l.firsts))) × (length l.starts.items ≡ l.b-index)
    × ((b : ℕ) → b < l.b-index → get_or l.starts.items b 0 ≡ table_bits (take b (map (box_at l.boxes) l.firsts)))
