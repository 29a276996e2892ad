use Rattle.std.proofs.Common.{◌≡◌, ◌∷◌, true, false, map, take}
use Rattle.std.specs.List.{range_with_len}
use Rattle.bb_net.specs.declared.loose.LooseCell.TheVariants as cell
use Rattle.bb_blast.specs.Inside.Listing.{cells_before}
use Rattle.bb_blast.proofs.listing.cells_before.Given as goal

abbrev pub invariant-loop-input : goal.invariant-loop-input
invariant-loop-input l = l.cells.items ≡ cell.Const false ∷ cell.Const true ∷ map cell.Input (range_with_len 0 l.input)

abbrev pub invariant-loop-source : goal.invariant-loop-source
invariant-loop-source l = l.cells.items ≡ cells_before l.inputs (take l.source-index l.sources)
