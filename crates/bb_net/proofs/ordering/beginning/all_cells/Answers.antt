use Rattle.std.proofs.Common.{sym, ap, ◌∙◌, ◌++◌, ◌∷◌, [], arith}
use Rattle.std.proofs.lemmas.List.FromFn.{map-range_with_len_more}
use Rattle.bb_net.specs.declared.ordering.placing.Waiter.TheVariants as waiter
use Rattle.bb_net.proofs.ordering.beginning.all_cells.Goals as goal

pub loop-k-preserved : goal.loop-k-preserved
loop-k-preserved c =
    c.in_ok-push.ensures.items ∙ ap (λ xs. xs ++ waiter.Cell c.loop-k.k ∷ []) c.loop-k.invariant ∙ sym (map-range_with_len_more waiter.Cell 0 c.loop-k.k c.loop-k.k (omega arith))
