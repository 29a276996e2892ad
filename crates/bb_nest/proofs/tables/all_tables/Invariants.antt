use Rattle.std.proofs.Common.{◌≡◌, ◌<◌, ℕ, length, take}
use Rattle.bb_net.specs.Pairs.{pin_count}
use Rattle.bb_net.specs.Values.{table_at}
use Rattle.bb_sym.specs.Inside.Made.{ref_at}
use Rattle.bb_uniq.specs.Inside.Meaning.{truth_of}
use Rattle.bb_nest.specs.Inside.StageRows.{IsStageTable}
use Rattle.bb_nest.proofs.tables.all_tables.Given as goal

abbrev pub invariant-loop-b : goal.invariant-loop-b
invariant-loop-b l =
    (l.start ≡ pin_count (take l.b l.boxes)) × (length l.tables.items ≡ l.b) × (length l.point ≡ l.d.store.vars)
    × ((k : ℕ) → k < l.b → IsStageTable l.d.store.vars (truth_of l.d.store (ref_at l.stages k).0) l.refs l.boxes k (table_at l.tables.items k))
