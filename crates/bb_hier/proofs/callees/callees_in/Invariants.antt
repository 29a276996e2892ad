use Rattle.std.proofs.Common.{◌≡◌, map, take}
use Rattle.std.specs.List.{filter_map, flat_map}
use Rattle.std.specs.Map.{lookup}
use Rattle.bb_bits.specs.Names.{same_name}
use Rattle.bb_ast.specs.Inside.Views.{item_view}
use Rattle.bb_design.specs.Hierarchy.{instances_in}
use Rattle.bb_hier.proofs.callees.callees_in.Given as goal

abbrev pub invariant-loop-item : goal.invariant-loop-item
invariant-loop-item l = l.list.items ≡ filter_map (λ i. lookup (same_name i.target) l.places.entries) (flat_map (λ item. instances_in item.body) (map item_view (take l.item-index l.items)))
