use Rattle.std.proofs.Common.{◌∷◌, [], true, false, refl}
use Rattle.bb_net.specs.declared.loose.LooseCell.TheVariants as cell
use Rattle.bb_blast.proofs.ListingLoops.{cells_grow}
use Rattle.bb_blast.proofs.listing.cells_before.Goals as goal

pub loop-input-preserved : goal.loop-input-preserved
loop-input-preserved c = cells_grow cell.Input (cell.Const false ∷ cell.Const true ∷ []) c.loop-input.cells.items _ c.loop-input.input c.loop-input.input refl c.loop-input.invariant c.in_ok-push-3.ensures.items
