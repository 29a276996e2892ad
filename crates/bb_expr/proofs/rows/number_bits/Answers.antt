use Rattle.std.proofs.Common.{◌++◌, ◌∷◌, [], ◌-◌, ◌+◌, ◌∙◌, ap, arith}
use Rattle.std.specs.Prelude.{nat_le, if◌then◌else◌}
use Rattle.std.proofs.lemmas.Nat.{one_shl}
use Rattle.bb_bits.specs.Numbers.{bits_of}
use Rattle.bb_expr.proofs.PlaceLemmas.{number-more, number-all}
use Rattle.bb_expr.proofs.rows.number_bits.Goals as goal

pub loop-turn-preserved : goal.loop-turn-preserved
loop-turn-preserved c =
    let power = one_shl (31 - c.loop-turn.turn) 32 (omega arith) in
    ap (λ l. l ++ bits_of (32 - (c.loop-turn.turn + 1)) c.without-rest.result) (c.in_ok-push.ensures.items ∙ ap (λ p. c.loop-turn.bits.items ++ nat_le p c.loop-turn.rest ∷ []) power)
    ∙ number-more c.loop-turn.bits.items c.loop-turn.turn c.loop-turn.rest c.without-rest.result 32 (bits_of 32 c.args.number) c.loop-turn-test.true c.loop-turn.invariant
    (c.without-rest.ensures ∙ ap (λ p. if nat_le p c.loop-turn.rest then c.loop-turn.rest - p else c.loop-turn.rest) power)

pub returns : goal.returns
returns c = number-all c.loop-turn.bits.items c.loop-turn.turn c.loop-turn.rest 32 (bits_of 32 c.args.number) c.loop-turn-test.false c.loop-turn.invariant
