use Rattle.std.proofs.Common.{◌≡◌, ◌∷◌, false, true, map}
use Rattle.std.specs.List.{range_with_len}
use Rattle.bb_net.specs.declared.loose.LooseCell.TheVariants.{Const, BoxOut}
use Rattle.bb_hier.proofs.recursion.module_cells.Given as goal

abbrev pub invariant-loop-k : goal.invariant-loop-k
invariant-loop-k l = l.cells.items ≡ Const false ∷ Const true ∷ map (λ k. BoxOut k 0) (range_with_len 0 l.k)
