use Rattle.std.proofs.Common.{◌≡◌, Bool, List, Vec, Global, filter, length, map, take}
use Rattle.std.specs.Prelude.{sum_by}
use Rattle.bb_expr.specs.Inside.Shares.{capped}
use Rattle.bb_hier.proofs.register_bits.count_all.Given as goal

abbrev pub invariant-loop-row : goal.invariant-loop-row
invariant-loop-row l = l.total ≡ capped (sum_by (λ (row : List Bool). length (filter (λ mark. mark) row)) (map (λ (row : Vec Bool Global). row.items) (take l.row-index l.marks)))
