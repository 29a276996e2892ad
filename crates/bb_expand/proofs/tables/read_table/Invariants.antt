use Rattle.std.proofs.Common.{◌≡◌, length, take}
use Rattle.bb_expand.proofs.tables.read_table.Given as goal

abbrev pub invariant-loop-i : goal.invariant-loop-i
invariant-loop-i l = (l.table.inputs ≡ length l.pins.ins) × (l.table.outputs ≡ length l.pins.outs) × (length l.table.rows ≡ length l.bits) × (take l.i l.table.rows ≡ take l.i l.bits)
