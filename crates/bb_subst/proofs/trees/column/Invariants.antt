use Rattle.std.proofs.Common.{◌≡◌, map}
use Rattle.std.specs.List.{range_with_len}
use Rattle.bb_bits.specs.Tables.{table_bit}
use Rattle.bb_subst.proofs.trees.column.Given as goal

abbrev pub invariant-loop-row : goal.invariant-loop-row
invariant-loop-row l = l.bits.items ≡ map (λ row. table_bit l.table row l.pin) (range_with_len 0 l.row)
