use Rattle.std.proofs.Common.{◌≡◌, ◌+◌, take}
use Rattle.bb_expand.specs.Expansions.{differing}
use Rattle.bb_expand.proofs.rows.row_clause.Given as goal

abbrev pub invariant-loop-i : goal.invariant-loop-i
invariant-loop-i l = l.clause.items ≡ differing (λ pin. l.base + pin + 1) (take l.i l.ins) (take l.i l.row)
