use Rattle.std.proofs.Common.{length, sym}
use Rattle.bb_net.proofs.PlaceLists.{reads_there, box_number}
use Rattle.bb_net.proofs.LookedAt.{reads_any}
use Rattle.bb_net.proofs.ordering.walks.mark_operands.Goals as goal

pub mark_pins-requires-clause-there : goal.mark_pins-requires-clause-there
mark_pins-requires-clause-there c = box_number c.args.loose.now c.args.place c.in-BoxOut.b c.in-BoxOut.field-1 c.requires.list c.requires.there (sym c.in-BoxOut.ensures.cell)

pub mark_gate-requires : goal.mark_gate-requires
mark_gate-requires c =
    let l = c.args.loose.now in
    let n = length c.args.seen.now in
    record { there = reads_any n l.boxes c.cell.result (reads_there l c.args.place n c.cell.result c.requires.list c.requires.there (sym c.requires.whole) c.cell.ensures.cell) }
