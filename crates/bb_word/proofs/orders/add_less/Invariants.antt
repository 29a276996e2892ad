use Rattle.bb_word.proofs.OrderSteps.{IsLess}
use Rattle.bb_word.proofs.orders.add_less.Given as goal

abbrev pub invariant-loop-i : goal.invariant-loop-i
invariant-loop-i l = IsLess l.left l.right l.fn.net l.net l.so_far l.i
