use Rattle.std.proofs.Common.{◌≡◌, ◌++◌, map, drop, take}
use Rattle.bb_net.specs.Completions.{table_bits}
use Rattle.bb_net.specs.Netlists.{box_at}
use Rattle.bb_expand.specs.Inside.ReadTables.{tables_in}
use Rattle.bb_expand.proofs.tables.tables_of_boxes.Given as goal

abbrev pub invariant-loop-b : goal.invariant-loop-b
invariant-loop-b l = (l.start ≡ table_bits (take l.b-index (map (box_at l.boxes) l.firsts)))
    × (l.tables.items ++ tables_in (drop l.b-index (map (box_at l.boxes) l.firsts)) (drop l.start l.model) ≡ tables_in (map (box_at l.boxes) l.firsts) l.model)
