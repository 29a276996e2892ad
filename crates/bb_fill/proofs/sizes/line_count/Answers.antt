use Rattle.std.proofs.Common.{◌≡◌, ◌∙◌, ◌^◌, ap, length, sym}
use Rattle.bb_net.specs.Kinds.{per_box}
use Rattle.bb_net.specs.Netlists.{box_at}
use Rattle.bb_net.specs.Values.{table_at}
use Rattle.bb_fill.specs.Filled.{cell_lines}
use Rattle.bb_fill.proofs.SizeLemmas.{pin-length}
use Rattle.bb_fill.proofs.sizes.line_count.Goals as goal

pub table_of-requires-clause-pin : goal.table_of-requires-clause-pin
table_of-requires-clause-pin c = c.cell_of.ensures.pin c.in-BoxOut.b c.in-BoxOut.p c.in-BoxOut.is

pub returns-in-BoxOut-clause-count : goal.returns-in-BoxOut-clause-count
returns-in-BoxOut-clause-count c =
    let f = c.args.flat.now in
    let tables = per_box c.args.kinds.now c.args.tables.now in
    let fit : (table_at tables c.in-BoxOut.b).inputs ≡ length (box_at f.net.boxes c.in-BoxOut.b).ins = sym (ap (λ t. t.inputs) c.table_of.ensures.table) ∙ c.table_of.ensures.inputs in
    c.row_count.ensures.rows ∙ ap (λ t. 2 ^ t.inputs) c.table_of.ensures.table
    ∙ sym (pin-length f tables c.args.number c.in-BoxOut.b c.in-BoxOut.p fit)
    ∙ ap (λ cell. length (cell_lines f tables c.args.number cell)) (sym c.in-BoxOut.is ∙ c.cell_of.ensures.cell)
