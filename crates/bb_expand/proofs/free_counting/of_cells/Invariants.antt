use Rattle.std.proofs.Common.{◌≡◌, ◌≤◌, ◌+◌, ◌*◌, ℕ, length}
use Rattle.std.specs.List.{flat_map, range_with_len}
use Rattle.bb_net.specs.Netlists.{cell_at}
use Rattle.bb_expand.specs.Inside.FreeClauses.{free_cell_clauses}
use Rattle.bb_expand.proofs.free_counting.of_cells.Given as goal

abbrev pub invariant-loop-cell : goal.invariant-loop-cell
invariant-loop-cell l = record {
  count : (base : ℕ) → l.count ≡ length (flat_map (λ place. free_cell_clauses (λ k. base + k + 1) (base + place + 1) (cell_at l.net.cells place)) (range_with_len 0 l.cell-index));
  most : l.count ≤ 4 * l.cell-index;
}
