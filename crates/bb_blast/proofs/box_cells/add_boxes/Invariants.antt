use Rattle.std.proofs.Common.{◌≡◌, take}
use Rattle.std.specs.List.{fold}
use Rattle.bb_blast.specs.Inside.Listing.{boxed_view, with_box}
use Rattle.bb_blast.proofs.box_cells.add_boxes.Given as goal

abbrev pub invariant-loop-scope : goal.invariant-loop-scope
invariant-loop-scope l = boxed_view l.boxed ≡ fold (with_box l.layout.nets l.layout.others l.templates) (boxed_view l.initial.boxed) (take l.scope-index l.placed)
