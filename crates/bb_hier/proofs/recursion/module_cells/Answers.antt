use Rattle.std.proofs.Common.{◌∷◌, ◌++◌, [], false, true, ap, sym, ◌∙◌, arith}
use Rattle.std.proofs.lemmas.List.FromFn.{map-range_with_len_more}
use Rattle.bb_net.specs.declared.loose.LooseCell.TheVariants.{Const, BoxOut}
use Rattle.bb_hier.proofs.recursion.module_cells.Goals as goal

pub loop-k-preserved : goal.loop-k-preserved
loop-k-preserved c =
    c.in_ok-push-3.ensures.items ∙ ap (λ xs. xs ++ BoxOut c.loop-k.k 0 ∷ []) c.loop-k.invariant
    ∙ ap (λ xs. Const false ∷ Const true ∷ xs) (sym (map-range_with_len_more (λ k. BoxOut k 0) 0 c.loop-k.k c.loop-k.k (omega arith)))
