use Rattle.std.proofs.Common.{◌≡◌, ◌-◌, ◌^◌, min, sum_by, take}
use Rattle.bb_expand.specs.ClauseCounts.{cell_clause_count}
use Rattle.bb_expand.proofs.counting.clauses_of_cells.Given as goal

abbrev pub invariant-loop-cell : goal.invariant-loop-cell
invariant-loop-cell l = l.count ≡ min (sum_by (cell_clause_count l.boxes) (take l.cell-index l.cells)) (2 ^ 64 - 1)
