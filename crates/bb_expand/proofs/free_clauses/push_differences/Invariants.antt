use Rattle.std.proofs.Common.{◌≡◌, [], ◌++◌}
use Rattle.std.specs.List.{flat_map, range_with_len}
use Rattle.bb_cnf.specs.Clauses.{lists_of}
use Rattle.bb_net.specs.declared.cell.Cell.TheVariants.{Xor}
use Rattle.bb_expand.specs.Expansions.{cell_clauses}
use Rattle.bb_expand.specs.Inside.FreeClauses.{output_variable, wanted_variable, difference_variable}
use Rattle.bb_expand.proofs.free_clauses.push_differences.Given as goal

abbrev pub invariant-loop-j : goal.invariant-loop-j
invariant-loop-j l = lists_of l.clauses.items ≡ lists_of l.initial.clauses.items
    ++ flat_map (λ j. cell_clauses [] [] [] (λ k. k) (difference_variable l.spec l.imp j) (Xor (output_variable l.imp j) (wanted_variable l.spec l.imp j))) (range_with_len 0 l.j)
