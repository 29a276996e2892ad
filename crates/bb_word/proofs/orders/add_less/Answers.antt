use Rattle.std.proofs.Common.{refl, arith}
use Rattle.bb_word.proofs.OrderSteps.{IsLess-step}
use Rattle.bb_word.proofs.orders.add_less.Goals as goal

pub loop-i-preserved : goal.loop-i-preserved
loop-i-preserved c =
    IsLess-step c.args.left.now c.args.right.now c.args.net.now c.loop-i.net c.add_less_bit.new.net c.loop-i.so_far c.loop-i.i _ _ c.in_ok-so_far.so_far
    (omega arith) (omega (arith, c.requires.same)) refl refl c.in_ok-so_far.ensures.ok c.in_ok-so_far.ensures.place c.loop-i.invariant
