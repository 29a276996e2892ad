use Rattle.std.proofs.Common.{◌∙◌, ap, reverse}
use Rattle.std.proofs.lemmas.Result.{IfOk-weaker}
use Rattle.bb_word.proofs.FoldSteps.{All-reversed, IsFolded}
use Rattle.bb_word.proofs.folds.add_folded.Goals as goal

pub reduce-requires-clause-there : goal.reduce-requires-clause-there
reduce-requires-clause-there c =
    All-reversed _ c.args.bits.now c.deref.result.now (c.deref.ensures.value ∙ c.reverse.ensures.items ∙ ap reverse c.in_ok-highest_first.ensures.items) c.requires.there

pub returns-clause-made : goal.returns-clause-made
returns-clause-made c =
    IfOk-weaker _ _ _ (λ place e. IsFolded c.args.joint c.args.bits.now c.deref.result.now c.args.net.now c.reduce.new.net place (c.deref.ensures.value ∙ c.reverse.ensures.items ∙ ap reverse c.in_ok-highest_first.ensures.items) e) c.reduce.ensures.made
