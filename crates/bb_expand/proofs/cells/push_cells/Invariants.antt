use Rattle.std.proofs.Common.{◌≡◌, ◌+◌, ◌++◌}
use Rattle.std.specs.List.{flat_map, range_with_len}
use Rattle.bb_cnf.specs.Clauses.{lists_of}
use Rattle.bb_net.specs.Netlists.{cell_at}
use Rattle.bb_expand.specs.Expansions.{cell_clauses}
use Rattle.bb_expand.proofs.cells.push_cells.Given as goal

abbrev pub invariant-loop-place : goal.invariant-loop-place
invariant-loop-place l = lists_of l.clauses.items ≡ lists_of l.initial.clauses.items
    ++ flat_map (λ place. cell_clauses l.kinds l.imp.boxes l.x (λ k. l.base + k + 1) (l.base + place + 1) (cell_at l.imp.cells place)) (range_with_len 0 l.place)
