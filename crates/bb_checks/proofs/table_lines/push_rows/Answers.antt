use Rattle.std.proofs.Common.{◌∙◌, ◌++◌, ap}
use Rattle.bb_bits.specs.Tables.{table_bit}
use Rattle.bb_checks.specs.TableLines.{printed_bit}
use Rattle.bb_checks.proofs.TableTexts.{one_more_row}
use Rattle.bb_checks.proofs.table_lines.push_rows.Goals as goal

pub loop-row-preserved : goal.loop-row-preserved
loop-row-preserved c =
    c.in_ok-push_bit.ensures.text
    ∙ ap (λ b. c.loop-row.text.items ++ printed_bit b) c.bit.ensures.bit
    ∙ one_more_row (λ row. table_bit c.args.table.now row c.args.pin) c.args.text.now.items c.loop-row.text.items c.loop-row.row c.loop-row.invariant
