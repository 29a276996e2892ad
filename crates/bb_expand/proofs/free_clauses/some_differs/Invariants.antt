use Rattle.std.proofs.Common.{◌≡◌, map}
use Rattle.std.specs.List.{range_with_len}
use Rattle.bb_cnf.specs.Clauses.{positive}
use Rattle.bb_expand.specs.Inside.FreeClauses.{difference_variable}
use Rattle.bb_expand.proofs.free_clauses.some_differs.Given as goal

abbrev pub invariant-loop-j : goal.invariant-loop-j
invariant-loop-j l = l.clause.items ≡ map (λ j. positive (difference_variable l.spec l.imp j)) (range_with_len 0 l.j)
