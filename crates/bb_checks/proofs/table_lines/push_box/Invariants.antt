use Rattle.std.proofs.Common.{◌≡◌, ◌++◌}
use Rattle.std.specs.List.{flat_map, range_with_len}
use Rattle.bb_net.specs.Pairs.{box_key}
use Rattle.bb_checks.specs.TableLines.{table_line, printed_pin, pin_column}
use Rattle.bb_checks.proofs.table_lines.push_box.Given as goal

abbrev pub invariant-loop-pin : goal.invariant-loop-pin
invariant-loop-pin l = l.text.items ≡ l.initial.text.items ++ flat_map (λ pin. table_line (box_key l.shared l.texts) (printed_pin l.texts pin) (pin_column l.table pin)) (range_with_len 0 l.pin)
