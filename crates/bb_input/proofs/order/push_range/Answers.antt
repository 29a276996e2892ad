use Rattle.std.proofs.Common.{◌+◌, ◌++◌, ◌∷◌, [], ap, sym, ◌∙◌, append_assoc}
use Rattle.std.specs.List.{range_with_len}
use Rattle.bb_lemmas.proofs.Ranges.{range_last}
use Rattle.bb_input.proofs.order.push_range.Goals as goal

pub loop-k-preserved : goal.loop-k-preserved
loop-k-preserved c =
    c.in_ok-push.ensures.items
    ∙ (ap (λ xs. xs ++ (c.args.first + c.loop-k.k) ∷ []) c.loop-k.invariant
    ∙ (append_assoc c.args.into.now.items (range_with_len c.args.first c.loop-k.k) ((c.args.first + c.loop-k.k) ∷ []) ∙ ap (λ xs. c.args.into.now.items ++ xs) (sym (range_last c.args.first c.loop-k.k))))
