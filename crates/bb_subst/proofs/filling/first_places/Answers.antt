use Rattle.std.proofs.Common.{◌≡◌, ◌+◌, ◌++◌, ◌∷◌, [], sym, ap, ◌∙◌, arith}
use Rattle.std.specs.List.{range_with_len}
use Rattle.bb_lemmas.proofs.Ranges.{range_last}
use Rattle.bb_subst.proofs.filling.first_places.Goals as goal

pub loop-k-preserved : goal.loop-k-preserved
loop-k-preserved c =
    let k = c.loop-k.k in
    let last : k ≡ 0 + k = omega arith in
    c.in_ok-push.ensures.items ∙ ap (λ l. l ++ k ∷ []) c.loop-k.invariant ∙ ap (λ n. range_with_len 0 k ++ n ∷ []) last ∙ sym (range_last 0 k)
