use Rattle.bb_word.proofs.OrderSteps.{AreEqual}
use Rattle.bb_word.proofs.orders.add_equality.Given as goal

abbrev pub invariant-loop-i : goal.invariant-loop-i
invariant-loop-i l = AreEqual l.left l.right l.fn.net l.net l.places.items l.i
