use Rattle.std.proofs.Common.{ℕ, Global}
use Rattle.std.specs.Prelude.{Vec}
use Rattle.std.proofs.lemmas.Result.{IfOk-weaker}
use Rattle.bb_word.proofs.SumSteps.{IsDifference}
use Rattle.bb_word.proofs.sums.add_difference.Goals as goal

pub returns-clause-made : goal.returns-clause-made
returns-clause-made c =
    IfOk-weaker _ _ _ (λ (places : Vec ℕ Global) e. IsDifference c.args.net.now c.add_complements.new.net c.add_sum.new.net c.args.left.now c.args.right.now c.in_ok-complements.complements.items c.deref.result.now places.items c.deref.ensures.value c.requires.constants c.in_ok-complements.ensures.made e) c.add_sum.ensures.made
