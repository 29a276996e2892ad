use Rattle.std.proofs.Common.{◌++◌, ◌∙◌, ap}
use Rattle.bb_expr.proofs.PlaceLemmas.{copies-more}
use Rattle.bb_expr.proofs.operators.copied.Goals as goal

pub loop-turn-preserved : goal.loop-turn-preserved
loop-turn-preserved c = c.in_ok-extend_from_slice.ensures.items ∙ ap (λ l. l ++ c.args.bits.now) c.loop-turn.invariant ∙ copies-more c.loop-turn.turn c.args.bits.now
