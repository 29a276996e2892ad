use Rattle.std.proofs.Common.{false}
use Rattle.std.specs.Prelude.{replicate}
use Rattle.bb_expr.specs.declared.step.BitStep.TheVariants as of
use Rattle.bb_expr.specs.Inside.Growing.{AddsRow}
use Rattle.bb_expr.proofs.rows.extended.Given as goal

abbrev pub invariant-loop-turn : goal.invariant-loop-turn
invariant-loop-turn l = AddsRow (replicate l.turn (of.Const false)) l.initial.steps.items l.steps.items l.places.items
