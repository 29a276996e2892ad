use Rattle.std.proofs.Common.{◌+◌, refl, sym, subst, arith}
use Rattle.bb_word.proofs.SumSteps.{IsSummed, IsSummed-step}
use Rattle.bb_word.proofs.sums.add_sum.Goals as goal

pub loop-i-preserved : goal.loop-i-preserved
loop-i-preserved c =
    subst (λ places. IsSummed c.args.carry c.args.left.now c.args.right.now c.args.net.now c.add_digit.new.net places c.in_ok-digit.digit.carry (c.loop-i.i + 1)) (sym c.in_ok-push.ensures.items)
    (IsSummed-step c.args.carry c.args.left.now c.args.right.now c.args.net.now c.loop-i.net c.add_digit.new.net c.loop-i.places.items c.loop-i.next c.loop-i.i _ _ c.in_ok-digit.digit.sum c.in_ok-digit.digit.carry
    (omega arith) (omega (arith, c.requires.same)) refl refl c.in_ok-digit.ensures.ok c.in_ok-digit.ensures.sum c.in_ok-digit.ensures.carry c.loop-i.invariant)
