use Rattle.std.proofs.Common.{◌≡◌, map, take, length}
use Rattle.std.specs.List.{AllZip, flat_map}
use Rattle.bb_ast.specs.Inside.Views.{item_view}
use Rattle.bb_names.specs.Inside.Checked.{syntax}
use Rattle.bb_design.specs.Constructs.{body_constructs}
use Rattle.bb_design.specs.Hierarchy.{instances_in}
use Rattle.bb_blast.specs.Inside.BitBlasting.{IsPartAt}
use Rattle.bb_blast.proofs.module_parts.parts_of.Given as goal

abbrev pub invariant-loop-item : goal.invariant-loop-item
invariant-loop-item l = record { count : l.first ≡ length (flat_map (λ item. instances_in item.body) (map item_view (take l.item-index l.item-items))); occurs : AllZip (IsPartAt l.context.checked.now l.context.module) l.parts.items (flat_map (λ item. body_constructs (map syntax l.context.checked.now) item.body) (map item_view (take l.item-index l.item-items))) }
