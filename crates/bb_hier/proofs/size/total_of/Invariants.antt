use Rattle.std.proofs.Common.{◌≡◌, ◌+◌, ℕ, take}
use Rattle.std.specs.Prelude.{slice_index_or, sum_by}
use Rattle.bb_expr.specs.Inside.Shares.{capped}
use Rattle.bb_hier.proofs.size.total_of.Given as goal

abbrev pub invariant-loop-k : goal.invariant-loop-k
invariant-loop-k l = l.total ≡ capped (sum_by (λ (k : ℕ). slice_index_or l.own k 0 + slice_index_or l.totals k 0) (take l.k-index l.called))
