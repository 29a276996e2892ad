use Rattle.std.proofs.Common.{ℕ, Global}
use Rattle.std.specs.Prelude.{Vec}
use Rattle.std.proofs.lemmas.Result.{IfOk-weaker}
use Rattle.bb_word.proofs.WordSteps.{IsPlainSum}
use Rattle.bb_word.proofs.words.add_plain_sum.Goals as goal

pub returns-clause-made : goal.returns-clause-made
returns-clause-made c =
    IfOk-weaker _ _ _ (λ (places : Vec ℕ Global) e. IsPlainSum c.args.net.now c.add_sum.new.net c.args.left.now c.args.right.now places.items c.requires.constants e) c.add_sum.ensures.made
