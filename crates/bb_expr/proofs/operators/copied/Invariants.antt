use Rattle.std.proofs.Common.{◌≡◌}
use Rattle.bb_expr.specs.Lists.{copies}
use Rattle.bb_expr.proofs.operators.copied.Given as goal

abbrev pub invariant-loop-turn : goal.invariant-loop-turn
invariant-loop-turn l = l.places.items ≡ copies l.turn l.bits
