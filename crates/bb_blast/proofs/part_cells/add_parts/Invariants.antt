use Rattle.std.proofs.Common.{◌≡◌, take}
use Rattle.std.specs.List.{fold}
use Rattle.bb_blast.specs.Inside.Listing.{cell_list_view, with_part, site_of}
use Rattle.bb_blast.proofs.part_cells.add_parts.Given as goal

abbrev pub invariant-loop-part : goal.invariant-loop-part
invariant-loop-part l = cell_list_view l.cell_list ≡ fold (with_part l.layout.nets l.layout.others (site_of l.placed l.scope l.template)) (cell_list_view l.initial.cell_list) (take l.part-index l.template.parts.items)
