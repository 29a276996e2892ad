use Rattle.std.proofs.Common.{take}
use Rattle.bb_expr.specs.declared.step.BitStep.TheVariants as of
use Rattle.bb_expr.specs.Inside.Growing.{AddsRow, paired}
use Rattle.bb_expr.proofs.operators.select.Given as goal

abbrev pub invariant-loop-i : goal.invariant-loop-i
invariant-loop-i l = AddsRow (paired (of.Mux l.condition) (take l.i l.chosen) (take l.i l.others)) l.initial.steps.items l.steps.items l.places.items
