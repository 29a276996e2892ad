use Rattle.std.proofs.Common.{◌≡◌, ◌+◌, [], ◌∷◌, ◌++◌, map, get_or}
use Rattle.std.specs.List.{range_with_len}
use Rattle.bb_cnf.specs.Clauses.{lists_of}
use Rattle.bb_net.specs.Values.{bit_of}
use Rattle.bb_expand.specs.Expansions.{having}
use Rattle.bb_expand.proofs.vectors.push_outputs.Given as goal

abbrev pub invariant-loop-j : goal.invariant-loop-j
invariant-loop-j l = lists_of l.clauses.items ≡ lists_of l.initial.clauses.items
    ++ map (λ j. having (l.base + get_or l.outs j 0 + 1) (bit_of l.bits (get_or l.wanted j 0)) ∷ []) (range_with_len 0 l.j)
