use Rattle.std.proofs.Common.{map}
use Rattle.std.specs.List.{range_with_len}
use Rattle.bb_expr.specs.declared.step.BitStep.TheVariants as of
use Rattle.bb_expr.specs.Inside.Growing.{AddsRow}
use Rattle.bb_expr.proofs.rows.net_bits.Given as goal

abbrev pub invariant-loop-turn : goal.invariant-loop-turn
invariant-loop-turn l = AddsRow (map (of.Net l.net) (range_with_len l.from l.turn)) l.initial.steps.items l.steps.items l.places.items
