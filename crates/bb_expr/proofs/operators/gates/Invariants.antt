use Rattle.std.proofs.Common.{take}
use Rattle.bb_expr.specs.Inside.Growing.{AddsRow, paired, gate_step}
use Rattle.bb_expr.proofs.operators.gates.Given as goal

abbrev pub invariant-loop-i : goal.invariant-loop-i
invariant-loop-i l = AddsRow (paired (gate_step l.op) (take l.i l.left) (take l.i l.right)) l.initial.steps.items l.steps.items l.places.items
