use Rattle.std.proofs.Common.{map, take}
use Rattle.bb_expr.specs.declared.step.BitStep.TheVariants as of
use Rattle.bb_expr.specs.Inside.Growing.{AddsRow}
use Rattle.bb_expr.proofs.rows.constants.Given as goal

abbrev pub invariant-loop-bit : goal.invariant-loop-bit
invariant-loop-bit l = AddsRow (map of.Const (take l.bit-index l.bits)) l.initial.steps.items l.steps.items l.places.items
