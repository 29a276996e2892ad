use Rattle.std.proofs.Common.{◌≡◌, ◌++◌, map}
use Rattle.std.specs.List.{flat_map, range_with_len}
use Rattle.bb_bits.specs.Tables.{table_bit}
use Rattle.bb_checks.specs.TableLines.{printed_bit}
use Rattle.bb_checks.proofs.table_lines.push_rows.Given as goal

abbrev pub invariant-loop-row : goal.invariant-loop-row
invariant-loop-row l = l.text.items ≡ l.initial.text.items ++ flat_map printed_bit (map (λ row. table_bit l.table row l.pin) (range_with_len 0 l.row))
