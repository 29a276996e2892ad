use Rattle.std.proofs.Common.{refl}
use Rattle.bb_net.specs.declared.loose.LooseCell.TheVariants as cell
use Rattle.bb_blast.proofs.ListingLoops.{cells_grow}
use Rattle.bb_blast.proofs.box_cells.add_outputs.Goals as goal

pub loop-pin-preserved : goal.loop-pin-preserved
loop-pin-preserved c = cells_grow (cell.BoxOut c.args.b) c.args.cells.now.items c.loop-pin.cells.items c.push.new.self.items c.loop-pin.pin c.loop-pin.pin refl c.loop-pin.invariant c.in_ok-push.ensures.items
