use Rattle.std.proofs.Common.{sym, ap, ◌∙◌, ◌++◌, ◌∷◌, [], arith}
use Rattle.std.proofs.lemmas.List.FromFn.{map-range_with_len_more}
use Rattle.bb_net.specs.declared.ordering.placing.Waiter.TheVariants as waiter
use Rattle.bb_net.proofs.ordering.beginning.all_boxes.Goals as goal

pub loop-b-preserved : goal.loop-b-preserved
loop-b-preserved c =
    c.in_ok-push.ensures.items ∙ ap (λ xs. xs ++ waiter.Box c.loop-b.b 0 ∷ []) c.loop-b.invariant ∙ sym (map-range_with_len_more (λ b. waiter.Box b 0) 0 c.loop-b.b c.loop-b.b (omega arith))
