use Rattle.std.proofs.Common.{◌≡◌, length}
use Rattle.bb_uniq.specs.Inside.Meaning.{truth_of}
use Rattle.bb_nest.specs.Inside.StageRows.{HasStageRows}
use Rattle.bb_nest.proofs.rows.fill_rows.Given as goal

abbrev pub invariant-loop-row : goal.invariant-loop-row
invariant-loop-row l =
    (l.table.inputs ≡ l.fn.table.inputs) × (l.table.outputs ≡ l.fn.table.outputs) × (length l.point ≡ l.d.store.vars)
    × HasStageRows l.d.store.vars (truth_of l.d.store l.f.0) l.readers l.table l.row
