use Rattle.std.proofs.Common.{◌+◌, refl, sym, subst, arith}
use Rattle.bb_word.proofs.OrderSteps.{AreEqual, AreEqual-step}
use Rattle.bb_word.proofs.orders.add_equality.Goals as goal

pub loop-i-preserved : goal.loop-i-preserved
loop-i-preserved c =
    subst (λ places. AreEqual c.args.left.now c.args.right.now c.args.net.now c.add_equality_bit.new.net places (c.loop-i.i + 1)) (sym c.in_ok-push.ensures.items)
    (AreEqual-step c.args.left.now c.args.right.now c.args.net.now c.loop-i.net c.add_equality_bit.new.net c.loop-i.places.items c.loop-i.i _ _ c.in_ok-place.place
    (omega arith) (omega (arith, c.requires.same)) refl refl c.in_ok-place.ensures.ok c.in_ok-place.ensures.place c.loop-i.invariant)
