use Rattle.std.proofs.Common.{◌≡◌, ◌+◌, ◌++◌}
use Rattle.std.specs.List.{flat_map, range_with_len}
use Rattle.bb_cnf.specs.Clauses.{lists_of}
use Rattle.bb_net.specs.Netlists.{cell_at}
use Rattle.bb_expand.specs.Inside.FreeClauses.{free_cell_clauses}
use Rattle.bb_expand.proofs.free_cells.push_free_cells.Given as goal

abbrev pub invariant-loop-place : goal.invariant-loop-place
invariant-loop-place l = lists_of l.clauses.items ≡ lists_of l.initial.clauses.items
    ++ flat_map (λ place. free_cell_clauses (λ k. l.base + k + 1) (l.base + place + 1) (cell_at l.net.cells place)) (range_with_len 0 l.place)
