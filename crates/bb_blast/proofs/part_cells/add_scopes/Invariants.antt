use Rattle.std.proofs.Common.{◌≡◌, take}
use Rattle.std.specs.List.{fold}
use Rattle.bb_blast.specs.Inside.Listing.{cell_list_view, with_scope}
use Rattle.bb_blast.proofs.part_cells.add_scopes.Given as goal

abbrev pub invariant-loop-scope : goal.invariant-loop-scope
invariant-loop-scope l = cell_list_view l.cell_list ≡ fold (with_scope l.layout.nets l.layout.others l.placed l.templates) (cell_list_view l.initial.cell_list) (take l.scope-index l.placed)
