use Rattle.std.proofs.Common.{◌≡◌, ◌<◌, ◌^◌, length, take}
use Rattle.bb_bits.specs.Numbers.{number_of}
use Rattle.bb_uniq.specs.Inside.Meaning.{truth_of}
use Rattle.bb_input.specs.Inside.Rows.{HasLeastRows}
use Rattle.bb_input.proofs.rows.fill_rows.Given as goal

abbrev pub invariant-loop-row : goal.invariant-loop-row
invariant-loop-row l =
    (l.table.inputs ≡ l.fn.table.inputs) × (l.table.outputs ≡ l.fn.table.outputs) × (length l.point ≡ l.d.store.vars) × (l.row < 2 ^ l.fn.table.inputs → number_of (take l.fn.table.inputs l.point) ≡ l.row)
    × HasLeastRows l.d.store.vars (truth_of l.d.store l.f.0) l.table l.row
