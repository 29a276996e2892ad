-- The table keeps its numbers of pins.
use Rattle.std.proofs.Common.{◌≡◌}
use Rattle.bb_test_designs.proofs.fitting.table_of.Given as goal

abbrev pub invariant-loop-pin : goal.invariant-loop-pin
invariant-loop-pin l = (l.table.inputs ≡ l.ins) × (l.table.outputs ≡ l.outs)

abbrev pub invariant-loop-row : goal.invariant-loop-row
invariant-loop-row l = (l.table.inputs ≡ l.ins) × (l.table.outputs ≡ l.outs)
