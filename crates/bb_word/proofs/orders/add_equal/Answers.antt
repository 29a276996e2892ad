use Rattle.std.proofs.Common.{◌∙◌}
use Rattle.std.proofs.lemmas.Result.{IfOk-weaker}
use Rattle.bb_word.proofs.OrderSteps.{IsEqual}
use Rattle.bb_word.proofs.orders.add_equal.Goals as goal

pub returns-clause-made : goal.returns-clause-made
returns-clause-made c =
    IfOk-weaker _ _ _ (λ place e. IsEqual c.args.net.now c.add_equality.new.net c.reduce.new.net c.args.left.now c.args.right.now c.in_ok-equal_bits.equal_bits.items c.deref.result.now place (c.deref.ensures.value ∙ c.reverse.ensures.items) c.in_ok-equal_bits.ensures.made e) c.reduce.ensures.made
