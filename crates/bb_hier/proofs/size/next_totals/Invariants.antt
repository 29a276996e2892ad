use Rattle.std.proofs.Common.{◌≡◌, ◌+◌, ℕ, List, map, take}
use Rattle.std.specs.Prelude.{slice_index_or, sum_by}
use Rattle.bb_expr.specs.Inside.Shares.{capped}
use Rattle.bb_hier.proofs.size.next_totals.Given as goal

abbrev pub invariant-loop-called : goal.invariant-loop-called
invariant-loop-called l = l.next.items ≡ map (λ (called : List ℕ). capped (sum_by (λ (k : ℕ). slice_index_or l.own k 0 + slice_index_or l.totals k 0) called)) (map (λ list. list.items) (take l.called-index l.callees))
