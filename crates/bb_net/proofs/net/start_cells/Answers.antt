use Rattle.std.proofs.Common.{true, false, ◌++◌, ◌∷◌, [], ap, ◌∙◌}
use Rattle.bb_net.specs.declared.cell.Cell.TheVariants.{Const, Input}
use Rattle.bb_net.proofs.NetLemmas.{first_cells-more}
use Rattle.bb_net.proofs.net.start_cells.Goals as goal

pub loop-i-init : goal.loop-i-init
loop-i-init c = c.in_ok-push-2.ensures.items ∙ ap (λ xs. xs ++ Const true ∷ []) (c.in_ok-push.ensures.items ∙ ap (λ xs. xs ++ Const false ∷ []) c.in_ok-cells.ensures.items)

pub loop-i-preserved : goal.loop-i-preserved
loop-i-preserved c = c.in_ok-push-3.ensures.items ∙ ap (λ xs. xs ++ Input c.loop-i.i ∷ []) c.loop-i.invariant ∙ first_cells-more c.loop-i.i
