use Rattle.std.proofs.Common.{◌++◌, ◌∷◌, [], ap, ◌∙◌}
use Rattle.std.proofs.lemmas.List.{replicate_more}
use Rattle.bb_net.proofs.ordering.beginning.nobody.Goals as goal

pub loop-preserved : goal.loop-preserved
loop-preserved c =
    let waiting = c.loop.waiting.items in
    c.in_ok-push.ensures.items ∙ ap (λ w. waiting ++ w ∷ []) c.none.ensures.none ∙ ap (λ ws. ws ++ [] ∷ []) c.loop.invariant ∙ replicate_more c.loop.counter []
